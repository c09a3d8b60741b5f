use Rattle.std.proofs.Common.{◌≡◌, ◌+◌, ◌++◌, ◌∷◌, [], ℕ, List, Some, length, refl, sym, ap, subst, ◌∙◌, arith}
use Rattle.std.proofs.lemmas.List.{length_push}
use Rattle.sq_schema.specs.TxnValue.{TxnValue}
use Rattle.sq_exec.specs.Slots.{SlotsValue, AreSlots, slot_entries}
use Rattle.sq_exec.specs.declared.slots.Slot.{Slot}
use Rattle.sq_exec.proofs.Filled.{entries_push, rising_push, filled_within}
use Rattle.sq_exec.proofs.slots.Slots.push.Goals as goal

module _ (slots : List Slot) (next : ℕ) (txn : TxnValue) where
  abbrev last : Slot
  last = record { number = next; txn = Some txn }

  pushed : slot_entries (slots ++ last ∷ []) ≡ slot_entries slots ++ (next, txn) ∷ []
  pushed = entries_push slots last

  are_pushed : (filled : ℕ) → AreSlots slots filled next → AreSlots (slots ++ last ∷ []) (filled + 1) (next + 1)
  are_pushed filled are =
      let count : length (slot_entries (slots ++ last ∷ [])) ≡ length (slot_entries slots) + 1 = ap length pushed ∙ length_push (slot_entries slots) (next, txn) in
      record { rising = rising_push slots last next refl are.rising; count = omega (arith, count, are.count) }

pub overflow_add-self : goal.overflow_add-self
overflow_add-self c =
    let slots = c.self.inside.slots in
    omega (arith, c.self.invariant.count, filled_within slots.items, slots.ok.0, slots.small.0, slots.small.1)

pub invariant_of-self : goal.invariant_of-self
invariant_of-self c =
    let w = c.self.inside in
    subst (λ slots. AreSlots slots (w.filled + 1) (w.next + 1)) (sym c.in-Ok.ensures.items) (are_pushed w.slots.items w.next c.args.txn w.filled c.self.invariant)

pub invariant_of-self-in-Err : goal.invariant_of-self-in-Err
invariant_of-self-in-Err c =
    let w = c.self.inside in
    subst (λ slots. AreSlots slots w.filled w.next) (sym c.in-Err.ensures.items) c.self.invariant

pub returns-in-Ok-clause-ok : goal.returns-in-Ok-clause-ok
returns-in-Ok-clause-ok c =
    let w = c.self.inside in
    ap (λ es. record { entries = es; next = w.next + 1 }) (ap slot_entries c.in-Ok.ensures.items ∙ pushed w.slots.items w.next c.args.txn)
    ∙ ap (λ (s : SlotsValue). record { entries = s.entries ++ (s.next, c.args.txn) ∷ []; next = s.next + 1 }) c.self.view_is
