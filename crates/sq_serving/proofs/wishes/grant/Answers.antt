use Rattle.std.proofs.Common.{[], refl}
use Rattle.sq_serving.specs.Becoming.{desk_value}
use Rattle.sq_serving.proofs.Steps.{move_grants, close_grants}
use Rattle.sq_serving.proofs.Answered.{stays_silent}
use Rattle.sq_serving.proofs.wishes.grant.Goals as goal

pub returns-in-Move-clause-gives : goal.returns-in-Move-clause-gives
returns-in-Move-clause-gives g c =
    let dv = desk_value g.W.Write.contents in
    let begin = c.begin_move in
    rw c.in-Move.is
    (move_grants c.in-Move.asked c.args.engine.now (dv c.args.desk.now) begin.result begin.new.engine (dv begin.new.desk) begin.ensures.gives)

pub returns-in-Move-clause-answers : goal.returns-in-Move-clause-answers
returns-in-Move-clause-answers g c = rw c.in-Move.is c.begin_move.ensures.answers

pub returns-in-Rows-clause-gives : goal.returns-in-Rows-clause-gives
returns-in-Rows-clause-gives g c =
    let tells = c.tell_rows.ensures.tells in
    rw c.in-Rows.is ([], (tells.0, refl), tells.1)

pub returns-in-Rows-clause-answers : goal.returns-in-Rows-clause-answers
returns-in-Rows-clause-answers g c = rw c.in-Rows.is c.tell_rows.ensures.answers

pub returns-in-Close-clause-gives : goal.returns-in-Close-clause-gives
returns-in-Close-clause-gives g c =
    let close = c.close_unless_jobs_wait in
    rw c.in-Close.is
    (close_grants c.args.engine.now (desk_value g.W.Write.contents c.args.desk.now) close.result close.new.engine close.ensures.continues close.ensures.ends)

pub returns-in-Close-clause-answers : goal.returns-in-Close-clause-answers
returns-in-Close-clause-answers g c =
    rw c.in-Close.is (stays_silent c.close_unless_jobs_wait.result (desk_value g.W.Write.contents c.args.desk.now))
