use Rattle.std.proofs.Common.{◌≡◌, ℕ, ◌+◌, ◌<◌, length}
use Rattle.std.specs.Prelude.{slice_index}
use Rattle.sq_gather.specs.Prelude.{status_at}
use Rattle.sq_audit.specs.Statuses.{IsEnded}
use Rattle.sq_audit.proofs.statuses.are_ended.Given as goal

abbrev pub invariant-loop-node : goal.invariant-loop-node
invariant-loop-node l =
    record {
      long : length l.node-items ≡ 63;
      numbered : (k : ℕ) → k < 63 → slice_index l.node-items k ≡ k + 1;
      ended : (k : ℕ) → k < l.node-index → IsEnded l.ended l.seg (k + 1) (status_at l.tree (k + 1));
    }
