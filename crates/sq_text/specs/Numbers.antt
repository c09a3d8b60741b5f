-- Numbers as words spell them.
use Rattle.std.specs.Prelude.{ℕ, ℤ, pos, neg_ℤ, ◌+◌, ◌-◌, ◌*◌, ◌^◌, ◌==◌, ◌&&◌, not, nat_lt, nat_le, if◌then◌else◌, [], ◌∷◌, length, Option, Some, None, option_and_then}
use Rattle.std.specs.Char.{is_ascii_digit}
use Rattle.std.specs.List.{list_all}
use Rattle.std.specs.Str.Parse.{digits_value}
use Rattle.sq_text.specs.Words.{Word}

-- the number with this digit appended to its digits, below 2 ^ 64
abbrev pub digit_behind : ℕ → ℕ → Option ℕ
digit_behind number digit =
    if is_ascii_digit digit && nat_lt (number * 10 + (digit - 48)) (2 ^ 64) then Some (number * 10 + (digit - 48)) else None

-- the number that decimal digits spell, below 2 ^ 64
abbrev pub digits_in : Word → Option ℕ
digits_in digits =
    if list_all is_ascii_digit digits && nat_lt (digits_value 10 digits) (2 ^ 64) then Some (digits_value 10 digits) else None

-- the number that the word spells: decimal digits, without a leading 0 unless it is the only digit
abbrev pub unsigned_in : Word → Option ℕ
unsigned_in [] = None
unsigned_in (first ∷ others) =
    if first == 48 && not (length others == 0) then None else digits_in (first ∷ others)

-- the number after a minus: not 0, and at most 2 ^ 63
abbrev pub negative_of : ℕ → Option ℤ
negative_of n = if not (n == 0) && nat_le n (2 ^ 63) then Some (neg_ℤ (pos n)) else None

-- the number without a sign: below 2 ^ 63
abbrev pub positive_of : ℕ → Option ℤ
positive_of n = if nat_lt n (2 ^ 63) then Some (pos n) else None

-- the signed number that the word spells, one that an i64 holds
abbrev pub signed_in : Word → Option ℤ
signed_in [] = None
signed_in (first ∷ others) =
    if first == 45
    then option_and_then negative_of (unsigned_in others)
    else option_and_then positive_of (unsigned_in (first ∷ others))
