use Rattle.std.proofs.Common.{inl, inr, refl}
use Rattle.sq_serving.proofs.Steps.{closed_lends, not_ended_keeps}
use Rattle.sq_serving.proofs.closing.close.Goals as goal

pub judge_closed-requires-clause-rows : goal.judge_closed-requires-clause-rows
judge_closed-requires-clause-rows g c = closed_lends c.args.engine.now c.close.new.self c.in-Ok.ensures.closed

pub returns-in-Ok : goal.returns-in-Ok
returns-in-Ok g c = inl (c.in-Ok.ensures.closed, c.judge_closed.ensures)

pub returns-in-Err : goal.returns-in-Err
returns-in-Err g c = inr (refl, not_ended_keeps _ c.args.engine.now c.close.new.self c.in-Err.ensures.not_closed)
