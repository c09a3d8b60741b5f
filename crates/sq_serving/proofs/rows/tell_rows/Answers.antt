use Rattle.std.proofs.Common.{inr}
use Rattle.sq_serving.specs.Becoming.{desk_value}
use Rattle.sq_serving.proofs.Answered.{not_ended_speaks}
use Rattle.sq_serving.proofs.Steps.{stays, opening_kept}
use Rattle.sq_serving.proofs.GivenRows.{not_ended_withholds, rows_are_told, rows_answered}
use Rattle.sq_serving.proofs.rows.tell_rows.Goals as goal

pub returns-in-Ok-clause-tells : goal.returns-in-Ok-clause-tells
returns-in-Ok-clause-tells g c =
    let dv = desk_value g.W.Write.contents in
    let paused = c.in-Ok.ensures.ended in
    rows_are_told (g.V.ServeWatch.Saves c.args.watch.now) c.args.engine.now c.end_epoch.new.self c.args.asked (dv c.args.desk.now)
    (dv c.give_engine_rows.new.desk) (opening_kept c.args.engine.now c.end_epoch.new.self paused.keeps) c.give_engine_rows.ensures

pub returns-in-Ok-clause-answers : goal.returns-in-Ok-clause-answers
returns-in-Ok-clause-answers g c =
    let dv = desk_value g.W.Write.contents in
    rows_answered (g.V.ServeWatch.Saves c.args.watch.now) c.args.engine.now c.end_epoch.new.self c.args.asked (dv c.args.desk.now)
    (dv c.give_engine_rows.new.desk) c.give_engine_rows.ensures

pub returns-in-Err-clause-tells : goal.returns-in-Err-clause-tells
returns-in-Err-clause-tells g c =
    let dv = desk_value g.W.Write.contents in (
      stays c.args.engine.now c.end_epoch.new.self c.in-Err.ensures.unchanged,
      inr (not_ended_speaks c.in-Err.why c.args.asked.place (dv c.args.desk.now) (dv c.say_not_ended.new.desk) c.say_not_ended.ensures),
    )

pub returns-in-Err-clause-answers : goal.returns-in-Err-clause-answers
returns-in-Err-clause-answers g c =
    let withholds = not_ended_withholds c.args.engine.now c.in-Err.why c.end_epoch.new.self c.in-Err.ensures.not_ended in
    inr (c.in-Err.why, withholds, c.say_not_ended.ensures)
