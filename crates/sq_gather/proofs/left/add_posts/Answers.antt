use Rattle.sq_gather.proofs.Filled.{grow_same, grow_more}
use Rattle.sq_gather.proofs.left.add_posts.Goals as goal

pub loop-posts-init : goal.loop-posts-init
loop-posts-init c = grow_same _

pub loop-posts-preserved : goal.loop-posts-preserved
loop-posts-preserved c = grow_more _ _ _ c.loop-posts.invariant c.add_each.ensures
