use Rattle.std.proofs.Common.{refl, ap, ◌∙◌}
use Rattle.sq_plan.specs.PlanValue.{PlanValue}
use Rattle.sq_moves.specs.OpeningValue.{OpeningValue}
use Rattle.sq_serving.specs.Settling.{Standing}
use Rattle.sq_serving.specs.Becoming.{desk_value}
use Rattle.sq_serving.proofs.Desks.{silent}
use Rattle.sq_serving.proofs.moving.end_move.Goals as goal

pub returns-in-Err-clause-speaks : goal.returns-in-Err-clause-speaks
returns-in-Err-clause-speaks g c =
    let desk = desk_value g.W.Write.contents c.args.desk.now in
    silent desk desk refl

pub returns-in-Ok-clause-plan : goal.returns-in-Ok-clause-plan
returns-in-Ok-clause-plan g c =
    let before = desk_value g.W.Write.contents c.args.desk.now in
    let now : PlanValue → Standing = λ plan. record before.standing { plan = plan } in
    let opens = c.opening.ensures.opening in
    c.tell_moved.ensures.plan
    ∙ ap now (c.in-Ok.ensures ∙ c.new_plan.ensures.plan ∙ ap (λ (o : OpeningValue). o.new) opens)
