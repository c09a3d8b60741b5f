use Rattle.std.proofs.Common.{sym, ap, ◌∙◌, subst}
use Rattle.sq_gather.specs.Prelude.{rows_in, ReceiptValue}
use Rattle.sq_audit.specs.Index.{HasFamily}
use Rattle.sq_audit.specs.Located.{entries_in}
use Rattle.sq_audit.specs.Told.{TellsNoLog}
use Rattle.sq_audit.proofs.Listing.{item_at}
use Rattle.sq_audit.proofs.Each.{each_more, each_done, each_fails, refuted, shown}
use Rattle.sq_audit.proofs.told.tell_no_log.Goals as goal

pub returns-then-not-branch : goal.returns-then-not-branch
returns-then-not-branch c =
    let receipts = c.args.receipts.now in
    let entries = entries_in c.args.all.now in
    let i = c.loop-receipt.receipt-index in
    let root = c.root.ensures ∙ ap (λ (r : ReceiptValue). r.txn.root) c.receipt.view_is in
    each_fails (TellsNoLog (rows_in c.args.table.now) entries) receipts i c.receipt-item.result (item_at receipts i c.receipt-item.result c.receipt-item.is c.loop-receipt-test.true)
    (λ tells.
    refuted c.in_ok-tells_no_log.field-0 c.in_ok-tells_no_log.ensures c.if-not-branch.true
    (tells (λ has. refuted c.has_family.result c.has_family.ensures c.if-has_family.false (subst (HasFamily entries) (sym root) has))))

pub loop-receipt-preserved-then-has_family : goal.loop-receipt-preserved-then-has_family
loop-receipt-preserved-then-has_family c =
    let receipts = c.args.receipts.now in
    let entries = entries_in c.args.all.now in
    let i = c.loop-receipt.receipt-index in
    let root = c.root.ensures ∙ ap (λ (r : ReceiptValue). r.txn.root) c.receipt.view_is in
    each_more (TellsNoLog (rows_in c.args.table.now) entries) receipts i c.receipt-item.result c.loop-receipt.invariant
    (item_at receipts i c.receipt-item.result c.receipt-item.is c.loop-receipt-test.true)
    (λ none. absurd (none (subst (HasFamily entries) root (shown c.has_family.result c.has_family.ensures c.if-has_family.true))))

pub loop-receipt-preserved : goal.loop-receipt-preserved
loop-receipt-preserved c =
    let receipts = c.args.receipts.now in
    let i = c.loop-receipt.receipt-index in
    each_more (TellsNoLog (rows_in c.args.table.now) (entries_in c.args.all.now)) receipts i c.receipt-item.result c.loop-receipt.invariant
    (item_at receipts i c.receipt-item.result c.receipt-item.is c.loop-receipt-test.true)
    (λ none. shown c.in_ok-tells_no_log.field-0 c.in_ok-tells_no_log.ensures c.if-not-branch.false)

pub returns : goal.returns
returns c = each_done (TellsNoLog (rows_in c.args.table.now) (entries_in c.args.all.now)) c.args.receipts.now c.loop-receipt.receipt-index c.loop-receipt.invariant c.loop-receipt-test.false
