-- A note as a word spells it: - for no byte, or two lower-case hexadecimal digits for each byte.
use Rattle.std.specs.Prelude.{ℕ, ◌+◌, ◌-◌, ◌*◌, ◌==◌, ◌&&◌, nat_le, if◌then◌else◌, List, [], ◌∷◌, length, Option, Some, None}
use Rattle.std.specs.Char.{is_ascii_digit}
use Rattle.sq_text.specs.Words.{Word, ◌>>=◌}

-- the value of a hexadecimal digit
abbrev pub hex_digit_in : ℕ → Option ℕ
hex_digit_in digit =
    if is_ascii_digit digit then Some (digit - 48)
    else if nat_le 97 digit && nat_le digit 102 then Some (digit - 87)
    else None

-- the byte that two digits spell
abbrev pub hex_byte_in : ℕ → ℕ → Option ℕ
hex_byte_in high low = do
  h ← hex_digit_in high
  l ← hex_digit_in low
  Some (16 * h + l)

-- the bytes that digits spell, two digits each
abbrev pub hex_in : List ℕ → Option (List ℕ)
hex_in [] = Some []
hex_in (digit ∷ []) = None
hex_in (high ∷ low ∷ digits) = do
  byte ← hex_byte_in high low
  bytes ← hex_in digits
  Some (byte ∷ bytes)

-- the note that the word spells
abbrev pub note_in : Word → Option (List ℕ)
note_in [] = None
note_in (first ∷ others) = if first == 45 && length others == 0 then Some [] else hex_in (first ∷ others)
