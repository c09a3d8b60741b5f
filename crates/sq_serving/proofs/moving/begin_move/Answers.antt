use Rattle.sq_serving.specs.Becoming.{desk_value}
use Rattle.sq_serving.proofs.Steps.{begun_gives, refused_gives}
use Rattle.sq_serving.proofs.Answered.{move_answered, refusal_answered}
use Rattle.sq_serving.proofs.moving.begin_move.Goals as goal

pub returns-in-Ok-clause-gives : goal.returns-in-Ok-clause-gives
returns-in-Ok-clause-gives g c =
    let dv = desk_value g.W.Write.contents in
    let tell = c.tell_begun in
    begun_gives c.args.asked c.args.engine.now (dv c.args.desk.now) tell.result c.move_to.new.self (dv tell.new.desk) c.in-Ok.ensures.begun
    tell.ensures.speaks tell.ensures.memory

pub returns-in-Ok-clause-answers : goal.returns-in-Ok-clause-answers
returns-in-Ok-clause-answers g c =
    let dv = desk_value g.W.Write.contents in
    let tell = c.tell_begun in
    move_answered c.args.asked c.args.engine.now (dv c.args.desk.now) tell.result c.move_to.new.self (dv tell.new.desk) c.in-Ok.ensures.begun
    tell.ensures.tells

pub returns-in-Err-clause-gives : goal.returns-in-Err-clause-gives
returns-in-Err-clause-gives g c =
    let dv = desk_value g.W.Write.contents in
    let refuse = c.refuse_move in
    refused_gives c.args.asked c.in-Err.why c.args.engine.now (dv c.args.desk.now) refuse.result c.move_to.new.self (dv refuse.new.desk)
    c.in-Err.ensures.not_moved refuse.ensures.speaks refuse.ensures.refuses refuse.ensures.memory

pub returns-in-Err-clause-answers : goal.returns-in-Err-clause-answers
returns-in-Err-clause-answers g c =
    let dv = desk_value g.W.Write.contents in
    let refuse = c.refuse_move in
    refusal_answered c.args.asked c.in-Err.why c.args.engine.now (dv c.args.desk.now) refuse.result c.move_to.new.self (dv refuse.new.desk)
    c.in-Err.ensures.not_moved refuse.ensures.refuses
