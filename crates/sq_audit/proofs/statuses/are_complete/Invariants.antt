use Rattle.std.proofs.Common.{ℕ, ◌<◌, []}
use Rattle.std.specs.Prelude.{slice_index_or}
use Rattle.sq_gather.specs.Prelude.{status_at}
use Rattle.sq_audit.specs.Statuses.{AreEnded}
use Rattle.sq_audit.proofs.statuses.are_complete.Given as goal

abbrev pub invariant-loop-seg : goal.invariant-loop-seg
invariant-loop-seg l = (i : ℕ) → i < l.seg → AreEnded l.ended i (status_at (slice_index_or l.g.statuses i []))
