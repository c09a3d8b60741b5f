use Rattle.std.proofs.Common.{false, sym, subst}
use Rattle.sq_engine.specs.declared.stages.Next.TheVariants as next
use Rattle.sq_engine.specs.Values.{EngineValue}
use Rattle.sq_engine.specs.Engine.{BeginsNext}
use Rattle.sq_engine.proofs.Engines.{here, run_of, between_at}
use Rattle.sq_engine.proofs.Nexts.{stage_begins}
use Rattle.sq_engine.proofs.Reached.{stage_reached}
use Rattle.sq_engine.proofs.engine.Engine.begin_stage.Goals as goal

pub invariant_of-self-in-Ok-3 : goal.invariant_of-self-in-Ok-3
invariant_of-self-in-Ok-3 c =
    let inside = c.self.inside in
    let arm = c.in-Between-default-false in
    let at = between_at inside arm.gathered arm.is_due false (sym arm.ensures.value) arm.is_due-test in
    let begins = subst (λ (e : EngineValue). BeginsNext e next.Stage) (sym c.self.view_is) c.requires in
    let follows = stage_begins (here inside) arm.gathered at begins in (
      c.self.invariant.0,
      c.self.invariant.1,
      stage_reached (here inside) arm.gathered (run_of c.in-Ok.run') inside.opening inside.pumps at follows.0 follows.1
          c.in-Ok.ensures.run c.in-Ok.ensures.reopened c.self.invariant.2,
    )
