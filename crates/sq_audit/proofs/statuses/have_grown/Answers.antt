use Rattle.std.proofs.Common.{[], refl, below_more}
use Rattle.std.specs.Prelude.{slice_index_or}
use Rattle.sq_gather.specs.Prelude.{status_at, IsGrown}
use Rattle.sq_audit.proofs.Each.{shown}
use Rattle.sq_audit.proofs.Growing.{all_grown}
use Rattle.sq_audit.proofs.statuses.have_grown.Goals as goal

pub loop-tree-preserved : goal.loop-tree-preserved
loop-tree-preserved c =
    below_more (λ i. IsGrown (status_at (slice_index_or c.args.statuses.now i []))) c.loop-tree.tree-index c.loop-tree.invariant (shown c.has_grown.result c.has_grown.ensures c.if-not-has_grown.false)

pub returns : goal.returns
returns c = ((λ e. all_grown c.args.statuses.now c.loop-tree.tree-index c.loop-tree-test.false c.loop-tree.invariant), (λ grown. refl))
