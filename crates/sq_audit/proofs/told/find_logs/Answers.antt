use Rattle.std.proofs.Common.{◌≡◌, ℕ, ◌-◌, ◌<◌, ⊎_elim, List, take, drop, slice_get, Some, sym, ap, ◌∙◌, subst, arith}
use Rattle.std.proofs.lemmas.Bool.{cases_lt}
use Rattle.sq_gather.specs.Prelude.{rows_in, ReceiptValue}
use Rattle.sq_audit.specs.Located.{entry_of, entries_in}
use Rattle.sq_audit.specs.Answers.{receipts_of}
use Rattle.sq_audit.specs.Told.{values_of, AreInOrder, IsFoundOf, StartsEntry, TellsEntry}
use Rattle.sq_audit.proofs.Listing.{mapped_at, mapped_past}
use Rattle.sq_audit.proofs.Each.{each_none, each_and, each_all}
use Rattle.sq_audit.proofs.Orders.{group_is, group_in_order}
use Rattle.sq_audit.proofs.told.find_logs.Goals as goal
use Rattle.sq_audit.proofs.told.find_logs.Goals.{After-first_from-end}

-- the family that is looked at
entry_there : (c : After-first_from-end) → slice_get (entries_in c.args.all.now) c.loop-located.located-index ≡ Some (entry_of c.located-item.result)
entry_there c = mapped_at entry_of c.args.all.now c.loop-located.located-index c.located-item.result c.located-item.is c.loop-located-test.true

root_is : (c : After-first_from-end) → c.number-root.result ≡ c.located-item.result.family.now.root
root_is c = c.number-root.ensures.number ∙ c.root.ensures

-- receipts before the first of its root key are of root keys below it
below : (c : After-first_from-end) (k : ℕ) (r : ReceiptValue) → k < c.first_from-from.result → slice_get (values_of c.args.sorted.now) k ≡ Some r → r.txn.root < c.number-root.result
below c k r low at =
    ⊎_elim
    (λ before.
    let less = c.loop-located.invariant.below k c.loop-located.located-index r (entry_of c.located-item.result) before at (omega arith) (entry_there c) in
    let same = root_is c in
    omega (arith, less, same))
    (λ from. c.first_from-from.ensures.below k r from low at)
    (cases_lt k c.loop-located.from)

-- the receipts of its root key
group : (c : After-first_from-end) → let from = c.first_from-from.result in
    values_of (take (c.first_from-end.result - from) (drop from c.args.sorted.now)) ≡ receipts_of c.number-root.result (values_of c.args.sorted.now)
group c =
    group_is c.args.sorted.now c.number-root.result c.first_from-from.result c.first_from-end.result c.requires.sorted c.first_from-end.ensures.from
    (below c) c.first_from-from.ensures.first c.first_from-end.ensures.below c.first_from-end.ensures.first

pub find_log-requires : goal.find_log-requires
find_log-requires c =
    let at = (goal.at.find_log-requires c).After-first_from-end in
    record { order = subst AreInOrder (sym (group at)) (group_in_order (values_of c.args.sorted.now) c.number-root.result c.requires.sorted) }

-- the receipts that are looked at are those of the family's root key
of_family : (c : After-first_from-end) → let from = c.first_from-from.result in
    values_of (take (c.first_from-end.result - from) (drop from c.args.sorted.now)) ≡ receipts_of c.located-item.result.family.now.root (values_of c.args.sorted.now)
of_family c = group c ∙ ap (λ k. receipts_of k (values_of c.args.sorted.now)) (root_is c)

pub loop-located-init : goal.loop-located-init
loop-located-init c =
    let rows = rows_in c.args.table.now in
    let receipts = values_of c.args.sorted.now in
    let entries = entries_in c.args.all.now in
    record {
      start = each_none (StartsEntry rows receipts) entries;
      known = each_none (TellsEntry rows receipts) entries;
      within = omega arith;
      below = λ k i r entry low stands upto there. absurd (omega (arith, low));
    }

pub loop-located-preserved : goal.loop-located-preserved
loop-located-preserved c =
    let at = (goal.at.loop-located-preserved c).After-first_from-end in
    let rows = rows_in c.args.table.now in
    let receipts = values_of c.args.sorted.now in
    let entries = entries_in c.args.all.now in
    let i = c.loop-located.located-index in
    let located = c.located-item.result in
    let one = c.in_ok-one.one in
    let is = subst (λ (rs : List ReceiptValue). IsFoundOf (rows located.family.now.root) located.family.now rs one) (of_family at) c.in_ok-one.ensures in
    record {
      start = each_and (StartsEntry rows receipts) entries i (entry_of located) c.loop-located.found.start one.start c.and-found.result.start c.and-found.ensures.start (entry_there at) c.loop-located.invariant.start is.start;
      known = each_and (TellsEntry rows receipts) entries i (entry_of located) c.loop-located.found.known one.known c.and-found.result.known c.and-found.ensures.known (entry_there at) c.loop-located.invariant.known is.known;
      within = c.first_from-from.ensures.within;
      below = λ k i r entry low stands upto there.
          let less = below at k r low stands in
          let rises = c.requires.rise c.loop-located.located-index i (entry_of located) entry (omega (arith, upto)) (entry_there at) there in
          let same = root_is at in
          omega (arith, less, rises, same);
    }

pub returns : goal.returns
returns c =
    let rows = rows_in c.args.table.now in
    let receipts = values_of c.args.sorted.now in
    let entries = entries_in c.args.all.now in
    let i = c.loop-located.located-index in
    let whole = mapped_past entry_of c.args.all.now i c.loop-located-test.false in
    record {
      start = each_all (StartsEntry rows receipts) entries i c.loop-located.found.start whole c.loop-located.invariant.start;
      known = each_all (TellsEntry rows receipts) entries i c.loop-located.found.known whole c.loop-located.invariant.known;
    }
