use Rattle.sq_gather.proofs.Filled.{grow_more, begins_still}
use Rattle.sq_gather.proofs.left.fill.Goals as goal

pub returns-clause-waiting : goal.returns-clause-waiting
returns-clause-waiting g c = begins_still _ _ _ c.add_all_waiting.ensures.waiting (grow_more _ _ _ c.add_posts.ensures c.add_queued.ensures)
