-- What a loop counts.
use Rattle.std.proofs.Common.{◌≡◌, ℕ, ◌+◌, ◌<◌, ◌≤◌, Bool, true, false, List, length, take, get_or, sym, ap, ◌∙◌, arith}
use Rattle.std.specs.Prelude.{count_by}
use Rattle.std.proofs.lemmas.List.Sums.{count_by_more_yes, count_by_more_no}

-- so many of the first elements were counted
abbrev pub Counted : {X : Type 0} → (X → Bool) → List X → ℕ → ℕ → Type 0
Counted p xs i count = (count ≡ count_by p (take i xs)) × (count ≤ i)

module _ {X : Type 0} (p : X → Bool) (xs : List X) (i : ℕ) (d : X) (old new : ℕ) (within : i < length xs) (so_far : Counted p xs i old) where
  pub counted_yes : p (get_or xs i d) ≡ true → new ≡ old + 1 → Counted p xs (i + 1) new
  counted_yes passes is =
      let most = so_far.1 in
      (is ∙ ap (λ n. n + 1) so_far.0 ∙ sym (count_by_more_yes p xs i d within passes), omega (arith, is, most))

  pub counted_no : p (get_or xs i d) ≡ false → new ≡ old → Counted p xs (i + 1) new
  counted_no fails is =
      let most = so_far.1 in
      (is ∙ so_far.0 ∙ sym (count_by_more_no p xs i d within fails), omega (arith, is, most))
