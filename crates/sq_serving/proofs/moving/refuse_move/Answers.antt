use Rattle.std.proofs.Common.{refl, ◌∙◌}
use Rattle.sq_serving.specs.Becoming.{desk_value}
use Rattle.sq_serving.proofs.Desks.{silent}
use Rattle.sq_serving.proofs.Answered.{fault_of_move}
use Rattle.sq_serving.proofs.moving.refuse_move.Goals as goal

pub returns-in-Plans-clause-refuses : goal.returns-in-Plans-clause-refuses
returns-in-Plans-clause-refuses g c =
    let dv = desk_value g.W.Write.contents in
    rw c.in-Plans.is
    (fault_of_move _ c.in-Plans.fault (dv c.args.desk.now) (dv c.say_refused.new.self)
    (c.unread_refusal.ensures.number ∙ c.number-number.ensures) c.say_refused.ensures.line)

pub returns-in-Moving-clause-speaks : goal.returns-in-Moving-clause-speaks
returns-in-Moving-clause-speaks g c =
    let desk = desk_value g.W.Write.contents c.args.desk.now in
    silent desk desk refl
