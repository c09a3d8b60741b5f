use Rattle.std.proofs.Common.{ℕ, ◌<◌, []}
use Rattle.std.specs.Prelude.{slice_index_or}
use Rattle.sq_gather.specs.Prelude.{status_at, IsGrown}
use Rattle.sq_audit.proofs.statuses.have_grown.Given as goal

abbrev pub invariant-loop-tree : goal.invariant-loop-tree
invariant-loop-tree l = (i : ℕ) → i < l.tree-index → IsGrown (status_at (slice_index_or l.statuses i []))
