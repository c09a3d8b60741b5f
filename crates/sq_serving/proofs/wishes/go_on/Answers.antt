use Rattle.std.proofs.Common.{refl}
use Rattle.std.proofs.lemmas.Result.{err_from_is_err_and}
use Rattle.sq_serving.specs.Becoming.{desk_value}
use Rattle.sq_serving.proofs.Served.{served_steps, flushed, move_ended}
use Rattle.sq_serving.proofs.Steps.{stays, stops_at_desk, lacks_memory}
use Rattle.sq_serving.proofs.wishes.go_on.Goals as goal

pub returns-in-Some-clause-gives : goal.returns-in-Some-clause-gives
returns-in-Some-clause-gives g c =
    stops_at_desk (g.V.ServeWatch.Saves c.args.watch.now) c.in-Some.ending c.args.engine.now (desk_value g.W.Write.contents c.args.desk.now)
    c.in-Some.ensures.stopped c.in-Some.ensures.stops

pub returns-in_err-note_rest-clause-gives : goal.returns-in_err-note_rest-clause-gives
returns-in_err-note_rest-clause-gives g c =
    let dv = desk_value g.W.Write.contents in
    let engine = c.args.engine.now in
    let p = err_from_is_err_and c.from_residual.result c.from_residual.ensures.1 in
    rw (p.1, p.2)
    (lacks_memory (g.V.ServeWatch.Saves c.args.watch.now) _ engine (dv c.args.desk.now) engine (dv c.note_rest.new.desk)
    c.in_err-note_rest.ensures.memory (stays engine engine refl) c.note_rest.ensures.speaks)

pub returns-clause-gives : goal.returns-clause-gives
returns-clause-gives g c =
    let dv = desk_value g.W.Write.contents in
    let saves = g.V.ServeWatch.Saves c.args.watch.now in
    let engine = c.args.engine.now in
    let before = dv c.args.desk.now in
    let told = dv c.note_rest.new.desk in
    let sent = dv c.flush.new.self in
    let wish = c.grant_wish in
    let after = dv wish.new.desk in
    served_steps saves engine before engine told wish.result wish.new.engine after
    (move_ended saves engine before told c.in_ok-note_rest.ensures.ends c.note_rest.ensures.speaks)
    (served_steps saves engine told engine sent wish.result wish.new.engine after
    (flushed saves engine told sent c.flush.ensures) wish.ensures.gives)
