use Rattle.std.proofs.Common.{◌≡◌, ℕ, ◌+◌, ◌<◌, length}
use Rattle.std.specs.Prelude.{slice_index}
use Rattle.sq_gather.specs.Prelude.{status_at}
use Rattle.sq_audit.specs.Statuses.{IsGrownAt}
use Rattle.sq_audit.proofs.statuses.has_grown.Given as goal

abbrev pub invariant-loop-node : goal.invariant-loop-node
invariant-loop-node l =
    record {
      long : length l.node-items ≡ 63;
      numbered : (k : ℕ) → k < 63 → slice_index l.node-items k ≡ k + 1;
      grown : (k : ℕ) → k < l.node-index → IsGrownAt (status_at l.tree) (k + 1);
    }
