use Rattle.std.proofs.Common.{◌≡◌, take}
use Rattle.std.specs.Prelude.{count_by}
use Rattle.std.specs.List.{enumerate_from}
use Rattle.sq_engine.specs.Progress.{is_complete_in_stage}
use Rattle.sq_engine.proofs.stage_progress.complete_segments.Given as goal

-- so many of the segments so far are complete
abbrev pub invariant-loop-seg : goal.invariant-loop-seg
invariant-loop-seg l = l.count ≡ count_by (is_complete_in_stage l.recon l.g) (take l.seg (enumerate_from 0 l.recon.segments))
