use Rattle.std.proofs.Common.{◌+◌, ◌≤◌, vec_len, vec_capacity}
use Rattle.std.specs.Vec.Iter.{into_iter_items, into_iter_len}
use Rattle.sq_store.proofs.RunStore.{Completes}
use Rattle.sq_store.proofs.run.run_store.Given as goal

-- the commands that are left are still to be answered, and there is room for their answers
abbrev pub invariant-loop-command : goal.invariant-loop-command
invariant-loop-command g l =
    (goal.iterator-loop-command g).can_next l.command-iterator
    × (goal.iterator-loop-command g).is_finite l.command-iterator
    × Completes (g.S.FamilyStore.contents l.initial.store) (into_iter_items l.initial.command-iterator) l.answers.items (g.S.FamilyStore.contents l.store) (into_iter_items l.command-iterator)
    × (vec_len l.answers + into_iter_len l.command-iterator ≤ vec_capacity l.answers)
