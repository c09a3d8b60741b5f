use Rattle.std.proofs.Common.{[], ◌∷◌}
use Rattle.std.specs.Prelude.{Err}
use Rattle.sq_serving.specs.declared.feed.Fed.TheVariants as fed
use Rattle.sq_serving.proofs.Desks.{fault_answered, plan_refused, stopped_handles}
use Rattle.sq_serving.proofs.desk.ServeDesk.take_fault.Goals as goal

pub returns-in-Plan-clause-handles : goal.returns-in-Plan-clause-handles
returns-in-Plan-clause-handles g c =
    plan_refused c.args.place c.args.faulty.now c.in-Plan.field-0 c.number-number.result _ _ c.in-Plan.is c.number-number.ensures
    c.say_refused.ensures.line

pub returns-in-Memory-clause-handles : goal.returns-in-Memory-clause-handles
returns-in-Memory-clause-handles g c =
    stopped_handles (fed.Line c.args.place (Err c.args.faulty.now) ∷ []) [] [] _ _ c.stop_for_memory.ensures

pub returns-in_default-clause-handles : goal.returns-in_default-clause-handles
returns-in_default-clause-handles g c =
    fault_answered c.args.place c.args.faulty.now c.number-number.result _ _ c.number-number.ensures c.in_default.not-Memory
    c.in_default.not-Plan c.say_fault.ensures.line
