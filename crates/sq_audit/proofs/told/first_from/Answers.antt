use Rattle.std.proofs.Common.{Bor, ⊎_elim, ap, ◌∙◌, arith}
use Rattle.std.proofs.lemmas.Bool.{cases_lt}
use Rattle.std.proofs.lemmas.Option.{slice_get_within}
use Rattle.sq_gather.specs.Prelude.{ReceiptValue}
use Rattle.sq_audit.specs.Told.{values_of}
use Rattle.sq_audit.proofs.Listing.{mapped_at, mapped_past}
use Rattle.sq_audit.proofs.Each.{same_of}
use Rattle.sq_audit.proofs.told.first_from.Goals as goal

pub loop-at-preserved : goal.loop-at-preserved
loop-at-preserved c =
    let sorted = c.args.sorted.now in
    let at = c.loop-at.at in
    let one = c.index-sorted-at.result in
    let test = c.loop-at-test.true in
    let so_far = c.loop-at.invariant in
    let from = so_far.from in
    let there = mapped_at (λ (x : Bor ReceiptValue). x.now) sorted at one c.index-sorted-at.is test in
    let root = c.number.ensures.number ∙ c.root.ensures ∙ ap (λ (r : ReceiptValue). r.txn.root) c.receipt.view_is in
    let less = c.if-number-root.false in
    record {
      from = omega (arith, from);
      within = omega (arith, test);
      below = λ k receipt above low stands.
          ⊎_elim
          (λ before. so_far.below k receipt above before stands)
          (λ last.
          let same = ap (λ (r : ReceiptValue). r.txn.root) (same_of (values_of sorted) at k one.now receipt there stands (omega (arith, low, last))) in
          omega (arith, root, less, same))
          (cases_lt k at);
    }

pub returns-clause-first : goal.returns-clause-first
returns-clause-first c = λ receipt at.
    let within = slice_get_within (values_of c.args.sorted.now) c.loop-at.at receipt at in
    let past = mapped_past (λ (x : Bor ReceiptValue). x.now) c.args.sorted.now c.loop-at.at c.loop-at-test.false in
    absurd (omega (arith, within, past))
