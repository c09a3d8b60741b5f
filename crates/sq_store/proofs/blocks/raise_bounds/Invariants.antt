use Rattle.std.proofs.Common.{◌≡◌, length, take, drop}
use Rattle.std.specs.Prelude.{◌≤◌}
use Rattle.sq_schema.specs.declared.root.TheConstants.{ROOT_END}
use Rattle.sq_store.specs.Runs.{families_in_runs, first_bound, AreRuns}
use Rattle.sq_store.proofs.blocks.raise_bounds.Given as goal

-- the bounds from the place on are raised
abbrev pub invariant-loop-at : goal.invariant-loop-at
invariant-loop-at l = record {
  runs : AreRuns ROOT_END l.runs;
  families : families_in_runs l.runs ≡ families_in_runs l.initial.runs;
  kept : take l.at l.runs ≡ take l.at l.initial.runs;
  next : l.end ≤ first_bound l.end (drop l.at l.runs);
  count : length l.runs ≡ length l.initial.runs;
  upto : l.at ≤ l.initial.at;
  low : l.from ≤ l.at;
}

abbrev pub decreases-loop-at : goal.decreases-loop-at
decreases-loop-at l = l.at
