use Rattle.std.proofs.Common.{List, ap}
use Rattle.sq_serving.specs.declared.desk.Wish.{Wish}
use Rattle.sq_serving.specs.Becoming.{ServeDeskValue, desk_value}
use Rattle.sq_serving.proofs.Queues.{first_queued}
use Rattle.sq_serving.proofs.desk.ServeDesk.ask_queued.Goals as goal

pub returns-in-Some : goal.returns-in-Some
returns-in-Some g c =
    let was = c.args.self.now in
    let with_wishes : List Wish → ServeDeskValue = λ wishes. record (desk_value g.W.Write.contents was) { wishes = wishes } in
    ap with_wishes
    (first_queued was.wish was.next_wish was.queue c.take_first.new.self c.in-Some.asked c.requires.wish c.requires.next c.in-Some.ensures)
