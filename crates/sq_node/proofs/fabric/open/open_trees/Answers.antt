use Rattle.std.proofs.Common.{ℕ, ◌+◌, List, [], ◌∷◌, ◌++◌, length, sym, ap, ◌∙◌, subst, length-append}
use Rattle.atomic_table.specs.Seated.{TableId}
use Rattle.sq_shared.specs.Seat.{SeatValue}
use Rattle.sq_node.specs.Opened.{AreFirstSeats}
use Rattle.sq_node.proofs.Shares.{first_push}
use Rattle.sq_node.proofs.fabric.open.open_trees.Goals as goal

pub loop-opened-preserved : goal.loop-opened-preserved
loop-opened-preserved c =
    let trees = c.loop-opened.trees.items in
    let seats = c.loop-opened.seats.items in
    let tree = c.in_ok-tree.tree in
    let seat = c.in_ok-tree.seat in
    record {
      count = ap length c.in_ok-push.ensures.items ∙ length-append trees (tree ∷ []) ∙ ap (λ (n : ℕ). n + 1) c.loop-opened.invariant.count;
      seats = subst (λ (ts : List TableId). AreFirstSeats 0 ts c.push-in-loop-opened.new.self.items) (sym c.in_ok-push.ensures.items)
          (subst (λ (ss : List SeatValue). AreFirstSeats 0 (trees ++ tree ∷ []) ss) (sym c.in_ok-push-2.ensures.items)
          (first_push 0 trees seats tree seat c.loop-opened.invariant.seats c.in_ok-tree.ensures.0 c.in_ok-tree.ensures.1));
    }
