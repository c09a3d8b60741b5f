use Rattle.std.proofs.Common.{false, subst}
use Rattle.sq_engine.specs.Values.{EngineValue}
use Rattle.sq_engine.specs.Engine.{BeginsNext}
use Rattle.sq_engine.proofs.Engines.{here, between_at, stage_between}
use Rattle.sq_engine.proofs.Nexts.{begins_after}
use Rattle.sq_engine.proofs.engine.Engine.next.Goals as goal

pub next_after-requires-clause-stage : goal.next_after-requires-clause-stage
next_after-requires-clause-stage c =
    let inside = c.self.inside in
    let arm = c.in-Between in
    stage_between (here inside) arm.gathered (between_at inside arm.gathered arm.is_due false arm.is c.if-is_due.false) c.self.invariant.2

pub returns-else-is_due-clause-next : goal.returns-else-is_due-clause-next
returns-else-is_due-clause-next c =
    let inside = c.self.inside in
    let arm = c.in-Between in
    let what = c.next_after.result in
    subst (λ (e : EngineValue). BeginsNext e what) c.self.view_is
    (begins_after (here inside) arm.gathered what (between_at inside arm.gathered arm.is_due false arm.is c.if-is_due.false) c.next_after.ensures)
