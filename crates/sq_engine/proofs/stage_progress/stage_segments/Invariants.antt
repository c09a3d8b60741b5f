use Rattle.std.proofs.Common.{◌≡◌, ◌==◌, take}
use Rattle.std.specs.Prelude.{count_by}
use Rattle.sq_moves.specs.declared.recon.Range.{Range}
use Rattle.sq_moves.specs.ReconValue.{stage_in}
use Rattle.sq_engine.proofs.stage_progress.stage_segments.Given as goal

-- so many of the segments so far move in the stage
abbrev pub invariant-loop-segment : goal.invariant-loop-segment
invariant-loop-segment l =
    l.count ≡ count_by (λ (segment : Range). stage_in l.recon segment == l.stage) (take l.segment-index l.segments)
