use Rattle.std.proofs.Common.{◌+◌, subst, arith, below_more, refl}
use Rattle.sq_gather.specs.Prelude.{status_at}
use Rattle.sq_audit.specs.Statuses.{IsGrownAt}
use Rattle.sq_audit.proofs.Each.{decides_not, refuted, shown}
use Rattle.sq_audit.proofs.Growing.{numbered_at, grown_from, grown_at}
use Rattle.sq_audit.proofs.statuses.has_grown.Goals as goal

pub returns-then-not-has_grown_at : goal.returns-then-not-has_grown_at
returns-then-not-has_grown_at c = decides_not (λ grown. refuted c.has_grown_at.result c.has_grown_at.ensures c.if-not-has_grown_at.true (grown_at (status_at c.args.tree.now) _ grown))

pub loop-node-preserved : goal.loop-node-preserved
loop-node-preserved c =
    let so_far = c.loop-node.invariant in
    let status = status_at c.args.tree.now in
    let number = numbered_at c.all-node-items.result c.loop-node.node-index c.node-item.result so_far.long so_far.numbered c.loop-node-test.true in
    record {
      long = so_far.long;
      numbered = so_far.numbered;
      grown = below_more (λ k. IsGrownAt status (k + 1)) c.loop-node.node-index so_far.grown (subst (IsGrownAt status) number (shown c.has_grown_at.result c.has_grown_at.ensures c.if-not-has_grown_at.false));
    }

pub returns : goal.returns
returns c =
    let whole = c.loop-node-test.false in
    ((λ e. grown_from c.args.tree.now (let long = c.told-tree in omega (arith, long)) (λ k low. c.loop-node.invariant.grown k (omega (arith, low, whole)))), (λ grown. refl))
