use Rattle.std.proofs.Common.{rules, ◌≡◌, ℕ, List, map, IsPermutation, ap, ◌∙◌, subst}
use Rattle.std.proofs.lemmas.List.{take_all}
use Rattle.std.proofs.lemmas.List.Sorted.{answers_always, IsNonDecreasingBy-from_sort}
use Rattle.sq_gather.specs.Prelude.{ReceiptValue}
use Rattle.sq_audit.specs.ById.{listed_id, id_and_root}
use Rattle.sq_audit.proofs.Counting.{pair_is}
use Rattle.sq_audit.proofs.Listing.{item_at}
use Rattle.sq_audit.proofs.Searching.{listed_next}
use Rattle.sq_audit.proofs.answered.list_ids.Goals as goal

pub loop-receipt-preserved : goal.loop-receipt-preserved
loop-receipt-preserved c =
    let receipts = c.args.receipts.now in
    let at = c.loop-receipt.receipt-index in
    let receipt = c.receipt-item.result in
    let pair = pair_is (c.id.ensures ∙ ap (λ (r : ReceiptValue). r.txn.id) c.receipt.view_is) (c.number.ensures.number ∙ c.root.ensures ∙ ap (λ (r : ReceiptValue). r.txn.root) c.receipt.view_is) in
    listed_next receipts at receipt (item_at receipts at receipt c.receipt-item.is c.loop-receipt-test.true) c.loop-receipt.ids.items c.push.new.self.items _ pair c.in_ok-push.ensures.items c.loop-receipt.invariant

pub returns : goal.returns
returns c =
    let old = c.loop-receipt.ids.items in
    let new = c.sort_unstable_by_key.new.self.items in
    let all : old ≡ map id_and_root c.args.receipts.now = c.loop-receipt.invariant ∙ ap (map id_and_root) (take_all c.loop-receipt.receipt-index c.args.receipts.now c.loop-receipt-test.false) in
    record {
      all = subst (λ (ids : List (ℕ × ℕ)). IsPermutation ids new) all c.sort_unstable_by_key.ensures.permutation;
      by_id = IsNonDecreasingBy-from_sort listed_id new (c.sort_unstable_by_key.ensures.sorted listed_id (answers_always _ _ _ (λ f a r g called. search rules)));
    }
