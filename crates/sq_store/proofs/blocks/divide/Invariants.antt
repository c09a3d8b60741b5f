use Rattle.std.proofs.Common.{◌≡◌, length}
use Rattle.std.specs.Prelude.{◌<◌}
use Rattle.sq_store.specs.Runs.{KeepsFamilies, nth_run}
use Rattle.sq_store.proofs.blocks.divide.Given as goal

-- the families are the same, and the run at the place has ever fewer
abbrev pub invariant-loop-len : goal.invariant-loop-len
invariant-loop-len l = record {
  keeps : KeepsFamilies l.initial.runs l.runs;
  inside : l.at < length l.runs;
  size : l.len ≡ length (nth_run l.runs l.at).families;
}

abbrev pub decreases-loop-len : goal.decreases-loop-len
decreases-loop-len l = l.len
