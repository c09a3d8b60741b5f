use Rattle.sq_serving.proofs.Changes.{taken_at}
use Rattle.sq_serving.proofs.sides.SideQueues.take.Goals as goal

pub returns : goal.returns
returns g c =
    taken_at c.self.inside.sides.items c.args.self.now c.in_ok-at.at _ c.index_mut-side.result.now c.in_ok-job.job
    c.self.view_is c.in_ok-at.ensures.0 c.index_mut-side.ensures.value c.in_ok-job.ensures.items
