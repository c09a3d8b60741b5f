-- The first place of a byte.
use Rattle.std.proofs.Common.{◌≡◌, ℕ, Bool, true, false, eqb, List, length, get_or, Option, Some, None, refl, arith}
use Rattle.std.specs.Prelude.{position}
use Rattle.std.proofs.lemmas.Bool.{le-ltb, lt-ltb}
use Rattle.std.proofs.lemmas.List.Sums.{position_or_len_is}
use Rattle.memchr.specs.Find.{IsFirstByte, is_byte}

off : (b : Bool) → ¬ (b ≡ true) → b ≡ false
off true differs = absurd (differs refl)
off false differs = refl

pub first_place : (byte : ℕ) (bytes : List ℕ) (r : Option ℕ) → IsFirstByte (is_byte byte) bytes r → r ≡ position (λ b. eqb b byte) bytes
first_place byte bytes None nowhere =
    let p : ℕ → Bool = λ b. eqb b byte in
    let all = position_or_len_is p bytes (length bytes) 0 (omega arith) (λ k lt. off (p (get_or bytes k 0)) (nowhere k (omega arith) lt)) (λ lt. absurd (omega arith)) in
    rw (all, le-ltb (length bytes) (length bytes) (omega arith)) refl
first_place byte bytes (Some at) found =
    let p : ℕ → Bool = λ b. eqb b byte in
    let first = position_or_len_is p bytes at 0 (omega (arith, found.0.high)) (λ k lt. off (p (get_or bytes k 0)) (found.0.before k (omega arith) lt)) (λ lt. found.1) in
    rw (first, lt-ltb at (length bytes) found.0.high) refl
