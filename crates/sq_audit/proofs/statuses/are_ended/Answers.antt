use Rattle.std.proofs.Common.{◌∙◌, sym, ap, arith, refl, true≢false}
use Rattle.sq_gather.specs.Prelude.{status_at, is_complete}
use Rattle.sq_audit.specs.Statuses.{IsEnded}
use Rattle.sq_audit.proofs.Growing.{by_nodes}
use Rattle.sq_audit.proofs.statuses.are_ended.Goals as goal

pub returns : goal.returns
returns c =
    let sts = c.args.tree.now in
    let whole = c.loop-node-test.false in (
      (λ e.
          by_nodes sts (let long = c.told-tree in omega (arith, long)) (λ n. IsEnded c.args.ended.now c.args.seg n (status_at sts n))
          (λ n free complete. absurd (true≢false (sym complete ∙ ap is_complete free)))
          (λ k low. c.loop-node.invariant.ended k (omega (arith, low, whole)))),
      (λ ended. refl),
    )
