use Rattle.std.proofs.Common.{drop, sym, ap, ◌∙◌, arith}
use Rattle.std.specs.Prelude.{find}
use Rattle.sq_exec.specs.Slots.{SlotsValue, slot_entries}
use Rattle.sq_exec.proofs.Filled.{reaches, skipped_to, found, from_here}
use Rattle.sq_exec.proofs.slots.Slots.first_from.Goals as goal

pub loop-slot-init : goal.loop-slot-init
loop-slot-init c =
    let slots = c.self.inside.slots.items in
    record {
      passed = skipped_to c.args.from slots ∙ ap (λ i. find (reaches c.args.from) (slot_entries (drop i slots))) (sym c.place_in-at.ensures);
      behind = omega (arith, c.place_in-at.ensures);
    }

pub returns-in-Some-txn : goal.returns-in-Some-txn
returns-in-Some-txn c =
    let from = c.args.from in
    let slots = c.self.inside.slots.items in
    let at = c.loop-slot.at in
    let slot = (c.in-Some.slot).now in
    let upto = from_here from slots at slot c.self.invariant.rising.rise c.loop-slot.invariant.behind c.in-Some.ensures.item.3.0 c.in-Some.ensures.lookup in
    sym (c.loop-slot.invariant.passed ∙ found from slots at slot c.in-Some.ensures.item.3.0 c.in-Some.ensures.lookup c.in-Some-txn.txn c.in-Some-txn.is upto)
    ∙ ap (λ (s : SlotsValue). find (reaches from) s.entries) c.self.view_is
