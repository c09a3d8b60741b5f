use Rattle.std.proofs.Common.{◌≡◌, ℕ, ◌+◌}
use Rattle.sq_node.specs.Opened.{AreFirstSeats, AreNewPumps}
use Rattle.sq_node.proofs.fabric.workers.open_pumps.Given as goal

-- the pumps so far are there
abbrev pub invariant-loop-number : goal.invariant-loop-number
invariant-loop-number l = record {
  same : l.fabric ≡ record l.initial.fabric { seats = l.fabric.seats };
  seats : (given : ℕ) → AreFirstSeats given l.initial.fabric.trees l.initial.fabric.seats → AreFirstSeats (given + l.number) l.fabric.trees l.fabric.seats;
  pumps : AreNewPumps l.fabric l.number l.pumps.items;
}
