use Rattle.std.proofs.Common.{List, inl, inr, ap, subst, sym, ◌∙◌, length, refl}
use Rattle.sq_serving.specs.declared.serve_answer.ServeAnswer.TheVariants.{NothingQueued}
use Rattle.sq_serving.specs.ServeAnswers.{serve_answer_line}
use Rattle.sq_serving.specs.declared.desk.AskedMove.{AskedMove}
use Rattle.sq_serving.specs.Becoming.{ServeDeskValue, WritesBytes, desk_value}
use Rattle.sq_serving.proofs.Queues.{wishes_with, put_after, drops_move}
use Rattle.sq_serving.proofs.desk.ServeDesk.drop_last.Goals as goal

pub returns-in-Some : goal.returns-in-Some
returns-in-Some g c =
    let was = c.args.self.now in
    let contents = g.W.Write.contents in
    let now = c.take_last.new.self in
    let asked = c.in-Some.asked in
    let is = c.in-Some.ensures in
    inl (
      asked,
      now,
      is,
      drops_move asked (length now) c.len-waiting.result (wishes_with was.wish was.next_wish now) (desk_value contents was)
          (desk_value contents c.say.new.self) c.len-waiting.ensures (put_after was.wish was.next_wish now was.queue asked is) c.say.ensures.line,
    )

pub returns-in-None : goal.returns-in-None
returns-in-None g c =
    let was = c.args.self.now in
    let contents = g.W.Write.contents in
    let none = c.in-None.ensures in
    let with_queue : List AskedMove → ServeDeskValue = λ queue.
    record (desk_value contents was) { wishes = wishes_with was.wish was.next_wish queue } in
    inr (
      none.0,
      subst
          (λ (queue : List AskedMove). WritesBytes (serve_answer_line NothingQueued) (with_queue queue) (desk_value contents c.say-in-None.new.self))
          (none.1 ∙ sym none.0) c.say-in-None.ensures.line,
    )
