use Rattle.std.proofs.Common.{◌≡◌, ℕ, ◌<◌, false}
use Rattle.std.specs.Prelude.{IfSome}
use Rattle.sq_store.specs.ChunkValue.{IsChunk}
use Rattle.sq_exec.specs.CoreValue.{inbox_at}
use Rattle.sq_node.specs.Steps.{may_load_now}
use Rattle.sq_node.proofs.node.Node.next_load.Given as goal

-- from no partition so far a chunk came that can be loaded
abbrev pub invariant-loop-number : goal.invariant-loop-number
invariant-loop-number l = record {
  none : (src : ℕ) → src < l.number → may_load_now l.self.core src ≡ false;
  chunks : (src : ℕ) → src < l.number → IfSome (inbox_at l.self.core src) IsChunk;
}
