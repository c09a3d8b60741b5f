use Rattle.std.proofs.Common.{◌≡◌, ◌++◌}
use Rattle.sq_store.specs.InOrder.{families_in}
use Rattle.sq_results.specs.RowLines.{lent_values}
use Rattle.sq_results.proofs.standing.add_store.Given as goal

-- those that are added go before those that are still to come
abbrev pub invariant-loop-family : goal.invariant-loop-family
invariant-loop-family l =
    (goal.iterator-loop-family).can_next l.family-iterator
    × (goal.iterator-loop-family).is_finite l.family-iterator
    × (lent_values l.families.items ++ l.family-iterator ≡ lent_values l.initial.families.items ++ families_in l.store)
