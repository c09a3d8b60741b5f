use Rattle.std.proofs.Common.{◌≡◌, ◌+◌, length, take, drop}
use Rattle.sq_store.specs.Counting.{fitting}
use Rattle.sq_store.specs.Runs.{families_in_runs, between}
use Rattle.sq_store.proofs.taking.fit.Given as goal

-- the families of the runs so far fit, and with them as many of the others as fit into what is left
abbrev pub invariant-loop-at : goal.invariant-loop-at
invariant-loop-at l = record {
  whole : fitting l.initial.left (between l.lo l.hi (families_in_runs l.runs)) ≡ l.count + fitting l.left (between l.lo l.hi (families_in_runs (drop l.at l.runs)));
  counted : l.count ≡ length (between l.lo l.hi (families_in_runs (take l.at l.runs)));
}
