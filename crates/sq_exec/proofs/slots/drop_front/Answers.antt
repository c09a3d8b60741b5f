use Rattle.std.proofs.Common.{sym, ap, subst, ◌∙◌}
use Rattle.sq_exec.specs.Slots.{AreRising, slot_entries}
use Rattle.sq_exec.proofs.Filled.{front_dropped, rising_dropped}
use Rattle.sq_exec.proofs.slots.drop_front.Goals as goal

pub loop-slot-preserved-else-is_some-5 : goal.loop-slot-preserved-else-is_some-5
loop-slot-preserved-else-is_some-5 c =
    let slots = c.loop-slot.slots.items in
    let empty = sym c.is_some.ensures ∙ c.if-is_some.false in
    record {
      entries = ap slot_entries c.pop_front.ensures.rest ∙ front_dropped slots (c.in-Some.slot).now c.in-Some.ensures.item.3.0 c.in-Some.ensures.lookup empty ∙ c.loop-slot.invariant.entries;
      rise = λ next are. subst (AreRising next) (sym c.pop_front.ensures.rest) (rising_dropped slots next (c.loop-slot.invariant.rise next are));
    }
