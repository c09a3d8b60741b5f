use Rattle.std.proofs.Common.{true, sym}
use Rattle.sq_engine.proofs.Engines.{here, run_of, between_at}
use Rattle.sq_engine.proofs.Reached.{move_reached}
use Rattle.sq_engine.proofs.engine.Engine.begin_move.Goals as goal

pub invariant_of-self-in-Ok-3 : goal.invariant_of-self-in-Ok-3
invariant_of-self-in-Ok-3 c =
    let inside = c.self.inside in
    let arm = c.in-Between-default-true in (
      c.self.invariant.0,
      c.self.invariant.1,
      move_reached (here inside) arm.gathered (run_of c.in-Ok.run') inside.opening inside.pumps
          (between_at inside arm.gathered arm.is_due true (sym arm.ensures.value) arm.is_due-test)
          c.in-Ok.ensures.run c.in-Ok.ensures.reopened c.self.invariant.2,
    )
