use Rattle.std.proofs.Common.{◌≡◌, ℕ, ◌+◌, ◌<◌, length, slice_index}
use Rattle.sq_moves.proofs.node.NodeId.all.Given as goal

abbrev pub invariant-loop-index : goal.invariant-loop-index
invariant-loop-index l =
    record {
      long : length l.node-items ≡ 63;
      numbered : (k : ℕ) → k < l.index → slice_index l.node-items k ≡ k + 1;
    }
