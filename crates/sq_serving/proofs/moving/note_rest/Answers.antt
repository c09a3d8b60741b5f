use Rattle.std.proofs.Common.{refl}
use Rattle.sq_serving.specs.Becoming.{desk_value}
use Rattle.sq_serving.proofs.Desks.{silent}
use Rattle.sq_serving.proofs.Answered.{no_move_over}
use Rattle.sq_serving.proofs.moving.note_rest.Goals as goal

pub returns-in-None-clause-speaks : goal.returns-in-None-clause-speaks
returns-in-None-clause-speaks g c =
    let desk = desk_value g.W.Write.contents c.args.desk.now in
    silent desk desk refl

pub returns-in-None-clause-ends : goal.returns-in-None-clause-ends
returns-in-None-clause-ends g c = no_move_over c.args.engine.now (desk_value g.W.Write.contents c.args.desk.now) c.in-None.is
