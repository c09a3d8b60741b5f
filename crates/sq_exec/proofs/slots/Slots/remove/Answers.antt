use Rattle.std.proofs.Common.{length, sym, ap, ◌∙◌, arith}
use Rattle.std.specs.Prelude.{is_some}
use Rattle.sq_exec.specs.Slots.{slot_entries}
use Rattle.sq_exec.proofs.Filled.{rising_alike, removed_none, removed_length}
use Rattle.sq_exec.proofs.slots.Slots.remove.Goals as goal

pub invariant_of-self : goal.invariant_of-self
invariant_of-self c =
    let slots = c.self.inside.slots.items in
    record {
      rising = rising_alike slots c.empty.new.slots.items c.self.inside.next (sym c.in_err-txn.ensures.numbers) c.self.invariant.rising;
      count = c.self.invariant.count ∙ sym (ap length (c.in_err-txn.ensures.rest ∙ removed_none (slot_entries slots) c.args.number (sym c.in_err-txn.ensures.txn)));
    }

pub invariant_of-self-2 : goal.invariant_of-self-2
invariant_of-self-2 c =
    let slots = c.self.inside.slots.items in
    let gone = removed_length (slot_entries slots) c.args.number (ap is_some (sym c.in_ok-txn.ensures.txn)) in
    let left = ap length (c.drop_empty.ensures.entries ∙ c.drop_front.ensures.entries ∙ c.in_ok-txn.ensures.rest) in
    record {
      rising =
          c.drop_empty.ensures.rise c.self.inside.next
          (c.drop_front.ensures.rise c.self.inside.next (rising_alike slots c.empty.new.slots.items c.self.inside.next (sym c.in_ok-txn.ensures.numbers) c.self.invariant.rising));
      count = omega (arith, gone, left, c.self.invariant.count);
    }
