use Rattle.std.proofs.Common.{◌≡◌, ◌+◌, ◌++◌, ◌≤◌, vec_len, vec_capacity}
use Rattle.std.specs.Vec.Iter.{drain_items, drain_len, DrainKeeps}
use Rattle.sq_store.specs.InOrder.{AreKeyed}
use Rattle.sq_store.proofs.family_run.move_some.Given as goal

-- what was taken goes before what is still to come, for which there is room
abbrev pub invariant-loop-family : goal.invariant-loop-family
invariant-loop-family l = (goal.iterator-loop-family).can_next l.family-iterator
    × (goal.iterator-loop-family).is_finite l.family-iterator
    × DrainKeeps l.initial.family-iterator l.family-iterator
    × (l.taken.items ++ drain_items l.family-iterator ≡ l.initial.taken.items ++ drain_items l.initial.family-iterator)
    × (vec_len l.taken + drain_len l.family-iterator ≤ vec_capacity l.taken)
    × (vec_capacity l.taken ≡ vec_capacity l.initial.taken)
    × (AreKeyed l.initial.taken.items → AreKeyed l.taken.items)
