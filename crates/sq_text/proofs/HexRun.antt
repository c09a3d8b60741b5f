-- Hexadecimal digits, read two at a time.
use Rattle.std.proofs.Common.{◌≡◌, ℕ, ◌+◌, ◌*◌, ◌%◌, ◌<◌, Bool, false, ◌&&◌, List, [], ◌∷◌, length, get_or, take, drop, set, Option, Some, None, refl, sym, ◌∙◌, arith}
use Rattle.std.specs.Prelude.{is_some}
use Rattle.std.specs.List.{list_all}
use Rattle.std.proofs.lemmas.List.{at_drop_more, take_more_set}
use Rattle.sq_text.specs.Words.{◌>>=◌}
use Rattle.sq_text.specs.Notes.{hex_digit_in, hex_byte_in, hex_in}
use Rattle.sq_text.proofs.Onto.{onto, onto_more}

abbrev pub are_digits : List ℕ → Bool
are_digits digits = list_all (λ digit. is_some (hex_digit_in digit)) digits

none_behind : (byte : Option ℕ) (read : Option (List ℕ)) → read ≡ None → (byte >>= λ b. read >>= λ bytes. Some (b ∷ bytes)) ≡ None
none_behind None read none = refl
none_behind (Some b) read none = rw none refl

pub odd_none : (digits : List ℕ) → length digits % 2 ≡ 1 → hex_in digits ≡ None
odd_none [] odd = absurd (omega (arith, odd))
odd_none (digit ∷ []) odd = refl
odd_none (high ∷ low ∷ digits) odd = none_behind (hex_byte_in high low) (hex_in digits) (odd_none digits (omega (arith, odd)))

pair_none : (high low : Option ℕ) (all : Bool) (read : Option (List ℕ)) → (all ≡ false → read ≡ None) → (is_some high && (is_some low && all)) ≡ false → ((high >>= λ h. low >>= λ l. Some (16 * h + l)) >>= λ byte. read >>= λ bytes. Some (byte ∷ bytes)) ≡ None
pair_none None low all read none off = refl
pair_none (Some h) None all read none off = refl
pair_none (Some h) (Some l) all read none off = rw (none off) refl

pub other_none : (digits : List ℕ) → are_digits digits ≡ false → hex_in digits ≡ None
other_none [] off = absurd cc
other_none (digit ∷ []) off = refl
other_none (high ∷ low ∷ digits) off = pair_none (hex_digit_in high) (hex_digit_in low) (are_digits digits) (hex_in digits) (other_none digits) off

pair_spelled : (high low : Option ℕ) (all : Bool) (read : Option (List ℕ)) → is_some read ≡ all → is_some ((high >>= λ h. low >>= λ l. Some (16 * h + l)) >>= λ byte. read >>= λ bytes. Some (byte ∷ bytes)) ≡ (is_some high && (is_some low && all))
pair_spelled None low all read same = refl
pair_spelled (Some h) None all read same = refl
pair_spelled (Some h) (Some l) all None same = same
pair_spelled (Some h) (Some l) all (Some bytes) same = same

-- as many digits as two a byte are bytes, where each is a digit
pub spelled : (digits : List ℕ) → length digits % 2 ≡ 0 → is_some (hex_in digits) ≡ are_digits digits
spelled [] even = refl
spelled (digit ∷ []) even = absurd (omega (arith, even))
spelled (high ∷ low ∷ digits) even = pair_spelled (hex_digit_in high) (hex_digit_in low) (are_digits digits) (hex_in digits) (spelled digits (omega (arith, even)))

pub begins : (read : Option (List ℕ)) → onto [] read ≡ read
begins None = refl
begins (Some bytes) = refl

-- one more byte is read
pub goes_on : (bytes digits : List ℕ) (at byte : ℕ) (total : Option (List ℕ)) → at < length bytes → 2 * at + 1 < length digits → hex_byte_in (get_or digits (2 * at) 0) (get_or digits (2 * at + 1) 0) ≡ Some byte → onto (take at bytes) (hex_in (drop (2 * at) digits)) ≡ total
    → onto (take (at + 1) (set bytes at byte)) (hex_in (drop (2 * (at + 1)) digits)) ≡ total
goes_on bytes digits at byte total room left one so_far =
    let front = take at bytes in
    let high = get_or digits (2 * at) 0 in
    let low = get_or digits (2 * at + 1) 0 in
    let rest = drop (2 * at + 1 + 1) digits in
    let first : onto front (hex_in (high ∷ drop (2 * at + 1) digits)) ≡ total = sym (at_drop_more (λ xs. onto front (hex_in xs)) digits (2 * at) 0 (omega (arith, left))) ∙ so_far in
    let whole : onto front (hex_byte_in high low >>= λ b. hex_in rest >>= λ read. Some (b ∷ read)) ≡ total = sym (at_drop_more (λ xs. onto front (hex_in (high ∷ xs))) digits (2 * at + 1) 0 left) ∙ first in
    let two : 2 * (at + 1) ≡ 2 * at + 1 + 1 = omega arith in
    rw (two, take_more_set bytes at byte room, onto_more front byte (hex_in rest)) (rw one at whole)
