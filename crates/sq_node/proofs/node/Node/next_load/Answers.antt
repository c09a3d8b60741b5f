use Rattle.std.proofs.Common.{◌≡◌, ℕ, false, sym, ap, ◌∙◌, subst, below_more}
use Rattle.std.specs.Prelude.{IfSome}
use Rattle.sq_store.specs.ChunkValue.{IsChunk}
use Rattle.sq_exec.specs.CoreValue.{inbox_at}
use Rattle.sq_node.specs.Steps.{may_load_now}
use Rattle.sq_node.proofs.node.Node.next_load.Goals as goal

pub loop-number-preserved : goal.loop-number-preserved
loop-number-preserved c =
    let core = c.args.self.now.core in
    let number = c.loop-number.number in
    let is : c.new-src.result ≡ number = c.new-src.ensures in
    record {
      none = below_more (λ (src : ℕ). may_load_now core src ≡ false) number c.loop-number.invariant.none (ap (may_load_now core) (sym is) ∙ sym c.may_load_from.ensures.may ∙ c.if-may_load_from.false);
      chunks = below_more (λ (src : ℕ). IfSome (inbox_at core src) IsChunk) number c.loop-number.invariant.chunks (subst (λ (src : ℕ). IfSome (inbox_at core src) IsChunk) is c.may_load_from.ensures.chunk);
    }
