use Rattle.std.proofs.Common.{◌≡◌, length, take}
use Rattle.sq_store.specs.Runs.{families_in_runs}
use Rattle.sq_store.proofs.search.count.Given as goal

-- the families of the runs so far are counted
abbrev pub invariant-loop-at : goal.invariant-loop-at
invariant-loop-at l = l.count ≡ length (families_in_runs (take l.at l.runs))
