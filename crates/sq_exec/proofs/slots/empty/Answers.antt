use Rattle.std.proofs.Common.{◌≡◌, ◌<◌, ◌≤◌, ◌≢◌, ℕ, List, length, get_or, sym, ap, subst, ◌∙◌, arith}
use Rattle.std.specs.Prelude.{slice_set, nat_le, Option}
use Rattle.std.specs.List.{position_or_len}
use Rattle.std.proofs.lemmas.List.{get_or_read}
use Rattle.sq_schema.specs.TxnValue.{TxnValue}
use Rattle.sq_exec.specs.Slots.{slot_entries, numbers_in}
use Rattle.sq_exec.specs.declared.slots.Slot.{Slot}
use Rattle.sq_exec.proofs.Places.{place_within}
use Rattle.sq_exec.proofs.Filled.{value_past, value_other, value_here, slot_at, removed_none, entries_emptied, numbers_emptied}
use Rattle.sq_exec.proofs.slots.empty.Goals as goal

-- a place that isn't behind all slots is inside
within : (number at count len : ℕ) (slots : List Slot) → at ≡ position_or_len (λ slot. nat_le number slot.number) slots → count ≡ len → len ≡ length slots → at ≢ count → at < length slots
within number at count len slots is counted own apart =
    let upto : at ≤ length slots = subst (λ i. i ≤ length slots) (sym is) (place_within (λ (slot : Slot). slot.number) number slots) in
    omega (arith, upto, counted, own, apart)

past : (at count len : ℕ) (slots : List Slot) → count ≡ len → len ≡ length slots → at ≡ count → length slots ≤ at
past at count len slots counted own same = omega (arith, counted, own, same)

-- what was read at a place is what is written there
own_number : (slots : List Slot) (at number : ℕ) (read slot : Slot) → at < length slots → read ≡ get_or slots at read → slot ≡ get_or slots at slot → read.number ≡ number → slot.number ≡ number
own_number slots at number read slot inside read_is is own = ap (λ (s : Slot). s.number) (is ∙ sym (get_or_read slots at read inside read_is slot)) ∙ own

pub index-requires : goal.index-requires
index-requires c =
    let slots = c.args.slots.now in
    let inside = within c.args.number c.place_in-at.result c.len.result slots.len slots.items c.place_in-at.ensures c.len.ensures slots.ok.0 c.if-at-len.false in
    omega (arith, inside, slots.ok.0)

pub index_mut-requires : goal.index_mut-requires
index_mut-requires c =
    let slots = c.args.slots.now in
    let inside = within c.args.number c.place_in-at.result c.len.result slots.len slots.items c.place_in-at.ensures c.len.ensures slots.ok.0 c.if-at-len.false in
    omega (arith, inside, slots.ok.0)

pub returns-then-at-len-clause-txn : goal.returns-then-at-len-clause-txn
returns-then-at-len-clause-txn c =
    let slots = c.args.slots.now in
    sym (value_past c.args.number slots.items c.place_in-at.result c.requires c.place_in-at.ensures (past c.place_in-at.result c.len.result slots.len slots.items c.len.ensures slots.ok.0 c.if-at-len.true))

pub returns-then-at-len-clause-rest : goal.returns-then-at-len-clause-rest
returns-then-at-len-clause-rest c =
    let slots = c.args.slots.now in
    sym (removed_none (slot_entries slots.items) c.args.number
    (value_past c.args.number slots.items c.place_in-at.result c.requires c.place_in-at.ensures (past c.place_in-at.result c.len.result slots.len slots.items c.len.ensures slots.ok.0 c.if-at-len.true)))

pub returns-then-index-number-clause-txn : goal.returns-then-index-number-clause-txn
returns-then-index-number-clause-txn c =
    let slots = c.args.slots.now in
    let inside = within c.args.number c.place_in-at.result c.len.result slots.len slots.items c.place_in-at.ensures c.len.ensures slots.ok.0 c.if-at-len.false in
    sym (value_other c.args.number slots.items c.place_in-at.result c.requires c.place_in-at.ensures (c.index.result).now inside c.index.ensures c.if-index-number.true)

pub returns-then-index-number-clause-rest : goal.returns-then-index-number-clause-rest
returns-then-index-number-clause-rest c =
    let slots = c.args.slots.now in
    let inside = within c.args.number c.place_in-at.result c.len.result slots.len slots.items c.place_in-at.ensures c.len.ensures slots.ok.0 c.if-at-len.false in
    sym (removed_none (slot_entries slots.items) c.args.number
    (value_other c.args.number slots.items c.place_in-at.result c.requires c.place_in-at.ensures (c.index.result).now inside c.index.ensures c.if-index-number.true))

pub returns-clause-txn : goal.returns-clause-txn
returns-clause-txn c =
    let slots = c.args.slots.now in
    let at = c.place_in-at.result in
    let slot = (c.index_mut.result).now in
    let inside = within c.args.number at c.len.result slots.len slots.items c.place_in-at.ensures c.len.ensures slots.ok.0 c.if-at-len.false in
    let own = own_number slots.items at c.args.number (c.index.result).now slot inside c.index.ensures c.index_mut.ensures.value c.if-index-number.false in
    c.take.ensures.value ∙ sym (value_here c.args.number slots.items at c.requires c.place_in-at.ensures slot inside c.index_mut.ensures.value own)

pub returns-clause-rest : goal.returns-clause-rest
returns-clause-rest c =
    let slots = c.args.slots.now in
    let at = c.place_in-at.result in
    let slot = (c.index_mut.result).now in
    let inside = within c.args.number at c.len.result slots.len slots.items c.place_in-at.ensures c.len.ensures slots.ok.0 c.if-at-len.false in
    let own = own_number slots.items at c.args.number (c.index.result).now slot inside c.index.ensures c.index_mut.ensures.value c.if-index-number.false in
    ap (λ (read : Option TxnValue). slot_entries (slice_set slots.items at (record { number = slot.number; txn = read }))) c.take.ensures.after
    ∙ entries_emptied c.args.number slot own slots.items at c.requires (slot_at c.args.number slots.items at c.requires c.place_in-at.ensures slot inside c.index_mut.ensures.value)

pub returns-clause-numbers : goal.returns-clause-numbers
returns-clause-numbers c =
    let slots = c.args.slots.now in
    let at = c.place_in-at.result in
    let slot = (c.index_mut.result).now in
    let inside = within c.args.number at c.len.result slots.len slots.items c.place_in-at.ensures c.len.ensures slots.ok.0 c.if-at-len.false in
    let own = own_number slots.items at c.args.number (c.index.result).now slot inside c.index.ensures c.index_mut.ensures.value c.if-index-number.false in
    ap (λ (read : Option TxnValue). numbers_in (slice_set slots.items at (record { number = slot.number; txn = read }))) c.take.ensures.after
    ∙ numbers_emptied c.args.number slot own slots.items at (slot_at c.args.number slots.items at c.requires c.place_in-at.ensures slot inside c.index_mut.ensures.value)
