use Rattle.sq_results.specs.Standing.{link_families}
use Rattle.sq_results.proofs.Ranging.{next_number}
use Rattle.sq_results.proofs.standing.add_source.Goals as goal

pub loop-dst-preserved : goal.loop-dst-preserved
loop-dst-preserved c = next_number (link_families c.args.world.now c.args.src) c.loop-dst.dst _ _ _ c.loop-dst.invariant c.in_ok-add_under_way.ensures
