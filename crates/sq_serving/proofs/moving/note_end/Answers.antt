use Rattle.std.proofs.Common.{refl, sym, ◌∙◌}
use Rattle.sq_serving.specs.Becoming.{desk_value}
use Rattle.sq_serving.proofs.Desks.{silent}
use Rattle.sq_serving.proofs.Answered.{move_over, rows_move}
use Rattle.sq_serving.proofs.moving.note_end.Goals as goal

pub returns-then-is_at_rest-clause-ends : goal.returns-then-is_at_rest-clause-ends
returns-then-is_at_rest-clause-ends g c =
    let dv = desk_value g.W.Write.contents in
    move_over c.end_move.result c.args.engine.now c.args.progress (dv c.args.desk.now) (dv c.end_move.new.desk) c.requires
    (sym c.is_at_rest.ensures ∙ c.if-is_at_rest.true) c.end_move.ensures.line c.end_move.ensures.moving c.end_move.ensures.plan

pub returns-else-is_at_rest-clause-speaks : goal.returns-else-is_at_rest-clause-speaks
returns-else-is_at_rest-clause-speaks g c =
    let desk = desk_value g.W.Write.contents c.args.desk.now in
    silent desk desk refl

pub returns-else-is_at_rest-clause-ends : goal.returns-else-is_at_rest-clause-ends
returns-else-is_at_rest-clause-ends g c =
    rows_move c.args.engine.now (desk_value g.W.Write.contents c.args.desk.now)
    (sym c.is_at_rest.ensures ∙ c.if-is_at_rest.false)
