use Rattle.std.proofs.Common.{List, inr, ap, subst, length, ◌+◌, ◌∙◌}
use Rattle.sq_serving.specs.declared.desk.AskedMove.{AskedMove}
use Rattle.sq_serving.specs.declared.desk.Wish.{Wish}
use Rattle.sq_serving.specs.Becoming.{ServeDeskValue, Stops, desk_value}
use Rattle.sq_serving.proofs.Queues.{wishes_with, one_more, put_after, move_waits}
use Rattle.sq_serving.proofs.desk.ServeDesk.put_last.Goals as goal

pub returns-in-Ok : goal.returns-in-Ok
returns-in-Ok g c =
    let was = c.args.self.now in
    let contents = g.W.Write.contents in
    let before = desk_value contents was in
    let with_wishes : List Wish → ServeDeskValue = λ wishes. record before { wishes = wishes } in
    let now = c.put.new.self in
    let is = c.in-Ok.ensures.ok in
    move_waits c.args.asked (length was.queue + 1) c.len-waiting.result before _ (desk_value contents c.say.new.self)
    (c.len-waiting.ensures ∙ one_more was.queue now c.args.asked is)
    (ap with_wishes (put_after was.wish was.next_wish was.queue now c.args.asked is))
    c.say.ensures.line

pub returns-in-Err : goal.returns-in-Err
returns-in-Err g c =
    let was = c.args.self.now in
    let contents = g.W.Write.contents in
    let with_queue : List AskedMove → ServeDeskValue = λ queue.
    record (desk_value contents was) { wishes = wishes_with was.wish was.next_wish queue } in
    inr
    (subst (λ (queue : List AskedMove). Stops (with_queue queue) (desk_value contents c.stop_for_memory.new.self)) c.in-Err.ensures.err
    c.stop_for_memory.ensures)
