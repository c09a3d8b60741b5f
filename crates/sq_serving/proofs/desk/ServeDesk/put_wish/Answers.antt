use Rattle.std.proofs.Common.{◌≡◌, ◌||◌, List, [], ap}
use Rattle.std.specs.Prelude.{is_some}
use Rattle.sq_serving.specs.declared.desk.Wish.{Wish}
use Rattle.sq_serving.specs.Closing.{is_move}
use Rattle.sq_serving.specs.Becoming.{ServeDeskValue, desk_value}
use Rattle.sq_serving.proofs.Queues.{none_queued, first_wish, second_wish}
use Rattle.sq_serving.proofs.desk.ServeDesk.put_wish.Goals as goal

pub returns-in-None : goal.returns-in-None
returns-in-None g c =
    let was = c.args.self.now in
    let with_wishes : List Wish → ServeDeskValue = λ wishes. record (desk_value g.W.Write.contents was) { wishes = wishes } in
    let no_queue : was.queue ≡ [] = none_queued (is_some was.moving || is_move was.wish) was.queue c.requires.rests in
    ap with_wishes (first_wish was.wish was.next_wish was.queue c.args.wish c.in-None.is c.requires.next no_queue c.requires.of_line)

pub returns-in-Some : goal.returns-in-Some
returns-in-Some g c =
    let was = c.args.self.now in
    let with_wishes : List Wish → ServeDeskValue = λ wishes. record (desk_value g.W.Write.contents was) { wishes = wishes } in
    let no_queue : was.queue ≡ [] = none_queued (is_some was.moving || is_move was.wish) was.queue c.requires.rests in
    ap with_wishes (second_wish was.wish was.next_wish was.queue c.args.wish c.requires.next no_queue c.requires.of_line)
