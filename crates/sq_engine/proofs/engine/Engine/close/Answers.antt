use Rattle.std.proofs.Common.{sym, ◌∙◌}
use Rattle.sq_engine.proofs.Endings.{ends_as_planned, answered_all}
use Rattle.sq_engine.proofs.engine.Engine.close.Goals as goal

pub returns-clause-planned : goal.returns-clause-planned
returns-clause-planned g c =
    let ended = c.if-not-end_move.ensures in
    ends_as_planned c.end_move.new.self ended.reached ended.ended

pub returns-clause-answered : goal.returns-clause-answered
returns-clause-answered g c = λ sound.
    let ended = c.if-not-end_move.ensures in
    answered_all c.end_move.new.self ended.reached ended.ended (sym c.verdict.ensures ∙ sound)
