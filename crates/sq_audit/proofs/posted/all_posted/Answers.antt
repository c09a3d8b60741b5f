use Rattle.sq_audit.specs.Answers.{IsPosted}
use Rattle.sq_audit.proofs.Listing.{item_at}
use Rattle.sq_audit.proofs.Each.{each_more, each_done, each_fails, refuted, shown}
use Rattle.sq_audit.proofs.posted.all_posted.Goals as goal

pub returns-then-not-is_posted : goal.returns-then-not-is_posted
returns-then-not-is_posted c =
    let receipts = c.args.receipts.now in
    let i = c.loop-receipt.receipt-index in
    each_fails (IsPosted c.args.jobs.now) receipts i c.receipt-item.result (item_at receipts i c.receipt-item.result c.receipt-item.is c.loop-receipt-test.true)
    (refuted c.is_posted.result c.is_posted.ensures c.if-not-is_posted.true)

pub loop-receipt-preserved : goal.loop-receipt-preserved
loop-receipt-preserved c =
    let receipts = c.args.receipts.now in
    let i = c.loop-receipt.receipt-index in
    each_more (IsPosted c.args.jobs.now) receipts i c.receipt-item.result c.loop-receipt.invariant
    (item_at receipts i c.receipt-item.result c.receipt-item.is c.loop-receipt-test.true)
    (shown c.is_posted.result c.is_posted.ensures c.if-not-is_posted.false)

pub returns : goal.returns
returns c = each_done (IsPosted c.args.jobs.now) c.args.receipts.now c.loop-receipt.receipt-index c.loop-receipt.invariant c.loop-receipt-test.false
