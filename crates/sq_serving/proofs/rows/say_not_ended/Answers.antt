use Rattle.sq_schema.specs.Fault.{memory_number}
use Rattle.sq_serving.specs.Becoming.{desk_value}
use Rattle.sq_serving.proofs.Answered.{fault_told, refused_told}
use Rattle.sq_serving.proofs.rows.say_not_ended.Goals as goal

pub returns-in-Moving : goal.returns-in-Moving
returns-in-Moving g c =
    let dv = desk_value g.W.Write.contents in
    rw c.in-Moving.is
    (refused_told _ 217 (dv c.args.desk.now) (dv c.say_refused.new.self) c.unread_refusal.ensures.number c.say_refused.ensures.line)

pub returns-in-Memory : goal.returns-in-Memory
returns-in-Memory g c =
    let dv = desk_value g.W.Write.contents in
    let made = c.unread_refusal-in-Memory.ensures in
    rw c.in-Memory.is
    (fault_told _ memory_number _ c.args.place _ (dv c.args.desk.now) (dv c.say_fault.new.self) made.number made.place made.no_id
    c.say_fault.ensures.line)
