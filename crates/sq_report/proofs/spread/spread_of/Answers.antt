use Rattle.std.proofs.Common.{◌≡◌, ℕ, ◌<◌, List, [], ◌∷◌, length, ap, ◌∙◌, arith}
use Rattle.std.specs.Prelude.{Some}
use Rattle.std.proofs.lemmas.Grind.{common_steps}
use Rattle.std.proofs.lemmas.List.Sorted.{IsNonDecreasingBy-from_sort}
use Rattle.sq_report.specs.Spreads.{ranked, spread_in}
use Rattle.sq_report.proofs.spread.spread_of.Goals as goal

-- there are times, and they spread so
some_spread : (times : List ℕ) (median p99 longest : ℕ) → 0 < length times → median ≡ ranked times 50 → p99 ≡ ranked times 99 → longest ≡ ranked times 100 → Some (record { median = median; p99 = p99; longest = longest }) ≡ spread_in times
some_spread [] median p99 longest some m p l = absurd (omega arith)
some_spread (first ∷ others) median p99 longest some m p l = λ k. Some (record { median = m k; p99 = p k; longest = l k })

pub returns : goal.returns
returns c =
    let sorted = c.sort_unstable.new.self.items in
    let some : 0 < length sorted = grind (arith, common_steps) in
    record {
      sorted = sorted;
      same = c.sort_unstable.ensures.permutation;
      rise = IsNonDecreasingBy-from_sort (λ (time : ℕ). time) sorted c.sort_unstable.ensures.sorted;
      is = some_spread sorted _ _ _ some
          (c.ranked.ensures ∙ ap (λ (times : List ℕ). ranked times 50) c.deref.ensures.value)
          (c.ranked-2.ensures ∙ ap (λ (times : List ℕ). ranked times 99) c.deref-2.ensures.value)
          (c.ranked-3.ensures ∙ ap (λ (times : List ℕ). ranked times 100) c.deref-3.ensures.value);
    }
