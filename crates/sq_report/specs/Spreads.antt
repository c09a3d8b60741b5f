-- The spread of times.
use Rattle.std.specs.Prelude.{◌≡◌, ℕ, ◌+◌, ◌-◌, ◌*◌, ◌/◌, List, [], ◌∷◌, length, slice_index_or, Option, Some, None}
use Rattle.std.specs.List.Sorted.{IsPermutation, IsNonDecreasingBy}
use Rattle.sq_report.specs.declared.spread.Spread.{Spread}

-- the first of the sorted times such that at least `percent` of 100 are no longer
abbrev pub ranked : List ℕ → ℕ → ℕ
ranked times percent = slice_index_or times ((length times * percent + 99) / 100 - 1) 0

-- the spread of sorted times
abbrev pub spread_in : List ℕ → Option Spread
spread_in [] = None
spread_in (first ∷ others) = Some (record {
  median = ranked (first ∷ others) 50;
  p99 = ranked (first ∷ others) 99;
  longest = ranked (first ∷ others) 100;
})

-- the spread is that of these times once they are sorted
pub record IsSpreadOf (times : List ℕ) (spread : Option Spread) : Type 0 where
  pub sorted : List ℕ
  pub same : IsPermutation times sorted
  pub rise : IsNonDecreasingBy (λ (time : ℕ). time) sorted
  pub is : spread ≡ spread_in sorted
