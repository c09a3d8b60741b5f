use Rattle.std.proofs.Common.{◌≡◌, length}
use Rattle.sq_shared.specs.Seats.{AreSeatsOf}
use Rattle.sq_tests.proofs.tests.pull.fresh_trees.Given as goal

abbrev pub invariant-loop-place : goal.invariant-loop-place
invariant-loop-place l =
    (length l.trees.items ≡ l._place)
    × (length l.others.items ≡ l._place)
    × AreSeatsOf l.trees.items l.seats.items
    × AreSeatsOf l.trees.items l.others.items
