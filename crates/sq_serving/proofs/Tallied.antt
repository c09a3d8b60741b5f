-- What is counted, one after another.
use Rattle.std.proofs.Common.{◌≡◌, ℕ, ◌+◌, ◌<◌, ◌^◌, List, [], ◌∷◌, ap, ◌∙◌, arith}
use Rattle.std.specs.Prelude.{sum_by}
use Rattle.std.proofs.lemmas.List.Sums.{sum_by-cons}

module _ {X : Type 0} (f : X → ℕ) where
  -- of all that is left to count, the first is counted
  pub one_counted : (count next : ℕ) (x : X) (left rest : List X) (total : ℕ) → left ≡ x ∷ rest
      → (total < 2 ^ 64 → count + sum_by f left ≡ total) → (count + f x < 2 ^ 64 → next ≡ count + f x)
      → total < 2 ^ 64 → next + sum_by f rest ≡ total
  one_counted count next x left rest total is was adds fits =
      let sum : sum_by f left ≡ f x + sum_by f rest = ap (λ (l : List X). sum_by f l) is ∙ sum_by-cons f x rest in
      let so_far : count + sum_by f left ≡ total = was fits in
      let small : count + f x < 2 ^ 64 = omega (arith, sum, so_far, fits) in
      let now : next ≡ count + f x = adds small in
      omega (arith, sum, so_far, now)

  -- nothing is left to count
  pub all_counted : (count : ℕ) (left : List X) (total : ℕ) → left ≡ [] → (total < 2 ^ 64 → count + sum_by f left ≡ total)
      → total < 2 ^ 64 → count ≡ total
  all_counted count left total none was fits =
      let nothing : sum_by f left ≡ 0 = ap (λ (l : List X). sum_by f l) none in
      let all : count + sum_by f left ≡ total = was fits in
      omega (arith, nothing, all)
