use Rattle.std.proofs.Common.{sym, subst}
use Rattle.sq_serving.specs.Becoming.{ServeDeskValue, desk_value}
use Rattle.sq_serving.proofs.Desks.{no_wish_taken}
use Rattle.sq_serving.specs.Events.{HasServed}
use Rattle.sq_serving.proofs.Served.{not_yet}
use Rattle.sq_serving.proofs.Steps.{wish_steps}
use Rattle.sq_serving.proofs.Answered.{none_taken, some_taken}
use Rattle.sq_serving.proofs.wishes.grant_wish.Goals as goal

pub returns-in-None-clause-gives : goal.returns-in-None-clause-gives
returns-in-None-clause-gives g c =
    let dv = desk_value g.W.Write.contents in
    let saves = g.V.ServeWatch.Saves c.args.watch.now in
    let engine = c.args.engine.now in
    let before = dv c.args.desk.now in
    subst (λ (d : ServeDeskValue). HasServed saves engine before engine d)
    (sym (no_wish_taken before (dv c.take_wish.new.self) c.in-None.ensures.takes)) (not_yet saves engine before)

pub returns-in-Some-clause-gives : goal.returns-in-Some-clause-gives
returns-in-Some-clause-gives g c =
    let dv = desk_value g.W.Write.contents in
    wish_steps (g.V.ServeWatch.Saves c.args.watch.now) c.in-Some.wish c.args.engine.now (dv c.args.desk.now) (dv c.take_wish.new.self)
    c.grant.result c.grant.new.engine (dv c.grant.new.desk) c.in-Some.ensures.takes c.grant.ensures.gives c.grant.ensures.answers

pub returns-in-None-clause-answers : goal.returns-in-None-clause-answers
returns-in-None-clause-answers g c =
    let dv = desk_value g.W.Write.contents in
    none_taken (g.V.ServeWatch.Saves c.args.watch.now) _ c.args.engine.now (dv c.args.desk.now) (dv c.take_wish.new.self) _ c.args.engine.now
    c.in-None.ensures.wish c.in-None.ensures.takes

pub returns-in-Some-clause-answers : goal.returns-in-Some-clause-answers
returns-in-Some-clause-answers g c =
    let dv = desk_value g.W.Write.contents in
    some_taken (g.V.ServeWatch.Saves c.args.watch.now) _ c.in-Some.wish c.args.engine.now (dv c.args.desk.now) (dv c.take_wish.new.self)
    c.grant.result c.grant.new.engine (dv c.grant.new.desk) c.in-Some.ensures.wish c.in-Some.ensures.takes c.grant.ensures.answers
