use Rattle.std.proofs.Common.{◌≡◌, ◌+◌, ℕ, Bor, slice_get, Some, sym, ap, ◌∙◌, subst, arith}
use Rattle.sq_gather.specs.Prelude.{ReceiptValue}
use Rattle.sq_audit.specs.Told.{values_of}
use Rattle.sq_audit.proofs.Listing.{mapped_at, mapped_past}
use Rattle.sq_audit.proofs.Each.{refuted, shown}
use Rattle.sq_audit.proofs.Retold.{RetoldTo, none_told, told_commit, told_abort, none_answers, none_there, told_ends, none_ends}
use Rattle.sq_audit.proofs.told.replay.Goals as goal
use Rattle.sq_audit.proofs.told.replay.Goals.{In_ok-is_answered, then-commits, else-commits}

-- the receipt that is looked at
receipt_there : (c : In_ok-is_answered) → slice_get (values_of c.args.receipts.now) c.loop-receipt.receipt-index ≡ Some c.receipt-item.result.now
receipt_there c =
    let i = c.loop-receipt.receipt-index in
    mapped_at (λ (x : Bor ReceiptValue). x.now) c.args.receipts.now i c.receipt-item.result c.receipt-item.is c.loop-receipt-test.true

in_place : (c : In_ok-is_answered) → c.receipt-item.result.now.position ≡ c.loop-receipt.position
in_place c = sym (ap (λ (x : Bor ReceiptValue). x.now.position) c.receipt.view_is) ∙ c.if-receipt-position.false

pub loop-receipt-init : goal.loop-receipt-init
loop-receipt-init c = record {
  few = omega arith;
  told = none_told c.args.family.now c.args.opening (values_of c.args.receipts.now);
}

pub returns-then-receipt-position : goal.returns-then-receipt-position
returns-then-receipt-position c =
    let group = values_of c.args.receipts.now in
    let i = c.loop-receipt.receipt-index in
    let r = c.receipt-item.result.now in
    let at : slice_get group i ≡ Some r = mapped_at (λ (x : Bor ReceiptValue). x.now) c.args.receipts.now i c.receipt-item.result c.receipt-item.is c.loop-receipt-test.true in
    let view = ap (λ (x : Bor ReceiptValue). x.now.position) c.receipt.view_is in
    none_there c.args.family.now c.args.opening group i c.loop-receipt.position c.loop-receipt.rows c.loop-receipt.invariant.told r at c.requires.order
    (λ here. c.if-receipt-position.true (view ∙ here))

pub returns-then-not-branch : goal.returns-then-not-branch
returns-then-not-branch c =
    let point = (goal.at.returns-then-not-branch c).In_ok-is_answered in
    none_answers c.args.family.now c.args.opening (values_of c.args.receipts.now) c.loop-receipt.receipt-index c.loop-receipt.position c.loop-receipt.rows c.loop-receipt.invariant.told
    c.receipt-item.result.now (receipt_there point) (in_place point)
    (λ told. refuted c.in_ok-is_answered.field-0 c.in_ok-is_answered.ensures.answered c.if-not-branch.true told)

pub loop-receipt-preserved : goal.loop-receipt-preserved
loop-receipt-preserved c =
    let family = c.args.family.now in
    let base = c.args.opening in
    let group = values_of c.args.receipts.now in
    let i = c.loop-receipt.receipt-index in
    let r = c.receipt-item.result.now in
    let position = c.loop-receipt.position in
    let rows = c.loop-receipt.rows in
    let after = c.is_answered.new.rows in
    let few = c.loop-receipt.invariant.few in
    let so_far = c.loop-receipt.invariant.told in
    let point = (goal.at.loop-receipt-preserved c).In_ok-is_answered in
    let at = receipt_there point in
    let here = in_place point in
    let told = shown c.in_ok-is_answered.field-0 c.in_ok-is_answered.ensures.answered c.if-not-branch.false in
    let is_after = c.in_ok-is_answered.ensures.rows in
    let retold = λ (n : ℕ). RetoldTo family base group (i + 1) n after in
    elim c.if-commits.branch [
      | then-commits w ↦ record {
        few = (let is = w.position-is in omega (arith, few, is));
        told = subst retold (sym w.position-is) (told_commit family base group i position rows so_far r at here told after is_after (sym c.commits.ensures ∙ w.if-commits.true));
      }
      | else-commits w ↦ record {
        few = (let is = w.position-is in omega (arith, few, is));
        told = subst retold (sym w.position-is) (told_abort family base group i position rows so_far r at here told after is_after (sym c.commits.ensures ∙ w.if-commits.false));
      }
    ]

pub returns-then-position : goal.returns-then-position
returns-then-position c =
    let i = c.loop-receipt.receipt-index in
    let whole = mapped_past (λ (x : Bor ReceiptValue). x.now) c.args.receipts.now i c.loop-receipt-test.false in
    told_ends c.args.family.now c.args.opening (values_of c.args.receipts.now) i c.loop-receipt.position c.loop-receipt.rows c.loop-receipt.invariant.told whole
    (c.if-position.true ∙ c.position.ensures.position)

pub returns-else-position : goal.returns-else-position
returns-else-position c =
    let i = c.loop-receipt.receipt-index in
    let whole = mapped_past (λ (x : Bor ReceiptValue). x.now) c.args.receipts.now i c.loop-receipt-test.false in
    none_ends c.args.family.now c.args.opening (values_of c.args.receipts.now) i c.loop-receipt.position c.loop-receipt.rows c.loop-receipt.invariant.told whole
    (λ same. c.if-position.false (same ∙ sym c.position.ensures.position))
