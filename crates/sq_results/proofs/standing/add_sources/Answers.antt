use Rattle.sq_results.specs.Standing.{source_families}
use Rattle.sq_results.proofs.Ranging.{next_number}
use Rattle.sq_results.proofs.standing.add_sources.Goals as goal

pub loop-src-preserved : goal.loop-src-preserved
loop-src-preserved c = next_number (source_families c.args.world.now) c.loop-src.src _ _ _ c.loop-src.invariant c.in_ok-add_source.ensures
