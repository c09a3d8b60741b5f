use Rattle.std.proofs.Common.{◌≡◌, length}
use Rattle.sq_node.specs.Opened.{AreFirstSeats}
use Rattle.sq_node.proofs.fabric.open.open_trees.Given as goal

-- so far each tree has its first seat
abbrev pub invariant-loop-opened : goal.invariant-loop-opened
invariant-loop-opened l = record { count : length l.trees.items ≡ l._opened; seats : AreFirstSeats 0 l.trees.items l.seats.items }
