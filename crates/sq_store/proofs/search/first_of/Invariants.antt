use Rattle.std.proofs.Common.{◌≡◌, drop}
use Rattle.sq_store.specs.Runs.{families_in_runs}
use Rattle.sq_store.proofs.search.first_of.Given as goal

-- the runs so far have no families
abbrev pub invariant-loop-at : goal.invariant-loop-at
invariant-loop-at l = families_in_runs (drop l.at l.runs) ≡ families_in_runs (drop l.from l.runs)
