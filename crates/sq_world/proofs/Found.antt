-- Elements that pass a test.
use Rattle.std.proofs.Common.{◌≡◌, ℕ, zero, suc, ◌+◌, ◌<◌, Bool, true, false, List, [], ◌∷◌, sym, ap, ◌∙◌, arith, true≢false, length}
use Rattle.std.specs.Prelude.{if◌then◌else◌, not, slice_get, Some, None, is_some, position}
use Rattle.std.specs.List.{position_or_len}
use Rattle.std.proofs.lemmas.Bool.{lt-ltb}

-- an element that passes is found
found_before : {X : Type 0} (p : X → Bool) (xs : List X) (i : ℕ) (x : X) → slice_get xs i ≡ Some x → p x ≡ true → position_or_len p xs < length xs
found_before p [] i x at passes = cc
found_before p (y ∷ xs) zero x at passes = first_passes (p y) (ap p (let same : y ≡ x = cc in same) ∙ passes)
  where
    first_passes : (b : Bool) → b ≡ true → (if not b then 1 + position_or_len p xs else 0) < suc (length xs)
    first_passes true e = omega arith
    first_passes false e = absurd (true≢false (sym e))
found_before p (y ∷ xs) (suc i) x at passes = by_first (p y) (found_before p xs i x at passes)
  where
    by_first : (b : Bool) → position_or_len p xs < length xs → (if not b then 1 + position_or_len p xs else 0) < suc (length xs)
    by_first true later = omega arith
    by_first false later = omega arith

pub found_at : {X : Type 0} (p : X → Bool) (xs : List X) (i : ℕ) (x : X) → slice_get xs i ≡ Some x → p x ≡ true → is_some (position p xs) ≡ true
found_at p xs i x at passes = ap (λ b. is_some (if b then Some (position_or_len p xs) else None)) (lt-ltb (position_or_len p xs) (length xs) (found_before p xs i x at passes))
