use Rattle.std.proofs.Common.{◌≡◌, ◌≤◌, ◌-◌, length, drop}
use Rattle.std.specs.Prelude.{nat_le, find}
use Rattle.std.specs.List.{position_or_len}
use Rattle.sq_exec.specs.Slots.{slot_entries}
use Rattle.sq_exec.proofs.slots.Slots.first_from.Given as goal

abbrev pub invariant-loop-slot : goal.invariant-loop-slot
invariant-loop-slot l = record {
  passed : find (λ e. nat_le l.fn.from e.0) (slot_entries l.self-inside.slots.items) ≡ find (λ e. nat_le l.fn.from e.0) (slot_entries (drop l.at l.self-inside.slots.items));
  behind : position_or_len (λ slot. nat_le l.fn.from slot.number) l.self-inside.slots.items ≤ l.at;
}

abbrev pub decreases-loop-slot : goal.decreases-loop-slot
decreases-loop-slot l = length l.self-inside.slots.items - l.at
