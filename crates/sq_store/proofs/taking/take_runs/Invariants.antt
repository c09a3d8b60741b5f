use Rattle.std.proofs.Common.{◌≡◌, ◌≤◌, ◌++◌, take, vec_capacity}
use Rattle.sq_store.specs.InOrder.{AreKeyed}
use Rattle.sq_store.specs.Runs.{families_in_runs, between, IsTakenTo}
use Rattle.sq_store.proofs.taking.take_runs.Given as goal

-- the families of the runs so far that are between the two numbers are taken
abbrev pub invariant-loop-at : goal.invariant-loop-at
invariant-loop-at l = record {
  left : IsTakenTo l.initial.runs l.lo l.hi l.at l.runs;
  taken : l.taken.items ≡ l.initial.taken.items ++ between l.lo l.hi (families_in_runs (take l.at l.initial.runs));
  capacity : vec_capacity l.initial.taken ≤ vec_capacity l.taken;
  keyed : AreKeyed l.initial.taken.items → AreKeyed l.taken.items;
}
