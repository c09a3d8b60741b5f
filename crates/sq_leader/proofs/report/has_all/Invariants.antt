use Rattle.std.proofs.Common.{◌≡◌, ℕ, ◌<◌, ◌||◌, not, true}
use Rattle.sq_moves.specs.ReconValue.{moves_into}
use Rattle.sq_leader.specs.Segments.{is_marked_complete}
use Rattle.sq_leader.proofs.report.has_all.Given as goal

-- each segment so far that moves into the partition in the stage is whole
abbrev pub invariant-loop-seg : goal.invariant-loop-seg
invariant-loop-seg l = (k : ℕ) → k < l.seg → (not (moves_into l.recon l.stage l.part k) || is_marked_complete l.whole k) ≡ true
