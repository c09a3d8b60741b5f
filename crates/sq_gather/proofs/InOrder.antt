-- Numbers that rise from 0 on without a gap.
use Rattle.std.proofs.Common.{◌≡◌, ℕ, zero, suc, ◌+◌, ◌-◌, ◌<◌, ◌≤◌, List, length, refl, ap, subst, add-one, arith}
use Rattle.std.specs.Prelude.{slice_index}
use Rattle.std.specs.List.Sorted.{IsStrictlyIncreasing}

module _ (xs : List ℕ) (rises : IsStrictlyIncreasing xs) where
  from_start : (i : ℕ) → i < length xs → i ≤ slice_index xs i
  from_start zero low = omega arith
  from_start (suc i) low =
      let before = from_start i (omega (arith, low)) in
      let step : slice_index xs i < slice_index xs (suc i) = subst (λ (n : ℕ). slice_index xs i < slice_index xs n) (add-one i) (rises i (omega (arith, low))) in
      omega (arith, before, step)

  far : (k i j : ℕ) → i + k ≡ j → j < length xs → slice_index xs i + k ≤ slice_index xs j
  far zero i j is low =
      let same : i ≡ j = omega (arith, is) in
      omega (arith, ap (slice_index xs) same)
  far (suc k) i j is low =
      let before = far k i (i + k) refl (omega (arith, is, low)) in
      let step = rises (i + k) (omega (arith, is, low)) in
      let next : i + k + 1 ≡ j = omega (arith, is) in
      omega (arith, before, step, ap (slice_index xs) next)

  -- where all are below their count, each is its own place
  pub at_place : ((i : ℕ) → i < length xs → slice_index xs i < length xs) → (i : ℕ) → i < length xs → slice_index xs i ≡ i
  at_place below i low =
      let last = length xs - 1 in
      let upto = far (last - i) i last (omega (arith, low)) (omega (arith, low)) in
      let top = below last (omega (arith, low)) in
      let from = from_start i low in
      omega (arith, upto, top, from, low)
