use Rattle.std.proofs.Common.{◌≡◌, ◌+◌, take, ◌∷◌, ◌++◌, [], ap, sym, ◌∙◌}
use Rattle.std.proofs.lemmas.List.{take_more, take_all}
use Rattle.sq_results.proofs.Told.{told_nothing, told_more, told_by}
use Rattle.sq_results.proofs.replies.Replies.take.Goals as goal

pub loop-receipt-init : goal.loop-receipt-init
loop-receipt-init c = told_nothing c.args.self.now

pub loop-receipt-preserved : goal.loop-receipt-preserved
loop-receipt-preserved c =
    let first = c.args.self.now in
    let receipts = c.args.receipts.now in
    let i = c.loop-receipt.receipt-index in
    let receipt = c.receipt-item.result in
    let more : take (i + 1) receipts ≡ take i receipts ++ receipt ∷ [] =
    take_more receipts i receipt c.loop-receipt-test.true ∙ ap (λ r. take i receipts ++ r ∷ []) (sym c.receipt-item.is) in
    told_by first _ _ _ (sym more) (told_more first _ _ (take i receipts) receipt c.loop-receipt.invariant c.in_ok-take_one.ensures)

pub returns : goal.returns
returns c =
    told_by c.args.self.now _ _ _ (take_all c.loop-receipt.receipt-index c.args.receipts.now c.loop-receipt-test.false) c.loop-receipt.invariant
