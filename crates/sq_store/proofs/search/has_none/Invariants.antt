use Rattle.std.proofs.Common.{◌≡◌, [], take}
use Rattle.sq_store.specs.Runs.{families_in_runs, between}
use Rattle.sq_store.proofs.search.has_none.Given as goal

-- the runs so far have none
abbrev pub invariant-loop-at : goal.invariant-loop-at
invariant-loop-at l = between l.lo l.hi (families_in_runs (take l.at l.runs)) ≡ []
