use Rattle.std.proofs.Common.{sym, ap}
use Rattle.sq_engine.specs.Values.{at_value}
use Rattle.sq_engine.proofs.Engines.{here, run_of}
use Rattle.sq_engine.proofs.Reached.{gathered_reached}
use Rattle.sq_engine.proofs.engine.Engine.gather_run.Goals as goal

pub invariant_of-self : goal.invariant_of-self
invariant_of-self g c =
    let inside = c.self.inside in
    let left = c.in-Ok.ensures in (
      c.self.invariant.0,
      c.self.invariant.1,
      gathered_reached (here inside) (run_of c.in-Running.run') c.in-Ok.gathered (ap at_value (sym c.in-Running.ensures.value))
          left.gathered left.placed left.grows c.self.invariant.2,
    )
