use Rattle.std.proofs.Common.{◌≡◌, ◌++◌, ◌-◌, length, drop}
use Rattle.std.specs.Slice.Iter.{iter_rest}
use Rattle.sq_store.specs.Runs.{families_in_runs}
use Rattle.sq_store.proofs.run_iter.RunIterIterator.next.Given as goal

-- the families that are left stay the same
abbrev pub invariant-loop-family : goal.invariant-loop-family
invariant-loop-family l = iter_rest l.self-inside.families ++ families_in_runs (drop l.self-inside.next l.self-inside.runs.now) ≡ l.fn.self

abbrev pub decreases-loop-family : goal.decreases-loop-family
decreases-loop-family l = length l.self-inside.runs.now - l.self-inside.next
