use Rattle.std.proofs.Common.{◌≡◌, ℕ, length}
use Rattle.sq_exec.specs.Slots.{AreRising, slot_entries}
use Rattle.sq_exec.proofs.slots.drop_front.Given as goal

abbrev pub invariant-loop-slot : goal.invariant-loop-slot
invariant-loop-slot l = record {
  entries : slot_entries l.slots.items ≡ slot_entries l.initial.slots.items;
  rise : (next : ℕ) → AreRising next l.initial.slots.items → AreRising next l.slots.items;
}

abbrev pub decreases-loop-slot : goal.decreases-loop-slot
decreases-loop-slot l = length l.slots.items
