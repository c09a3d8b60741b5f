use Rattle.std.proofs.Common.{rules, ◌≡◌, List, IsPermutation, Bor, ◌∙◌, subst}
use Rattle.std.proofs.lemmas.List.{take_all}
use Rattle.std.proofs.lemmas.List.Sorted.{answers_always, IsPermutation-map}
use Rattle.sq_gather.specs.Prelude.{ReceiptValue}
use Rattle.sq_audit.specs.Told.{values_of, receipt_key}
use Rattle.sq_audit.proofs.Orders.{sorted_values}
use Rattle.sq_audit.proofs.told.sort.Goals as goal

pub returns-clause-all : goal.returns-clause-all
returns-clause-all c =
    let all : values_of c.loop-receipt.sorted.items ≡ c.args.receipts.now = c.loop-receipt.invariant ∙ take_all c.loop-receipt.receipt-index c.args.receipts.now c.loop-receipt-test.false in
    subst (λ (rs : List ReceiptValue). IsPermutation rs (values_of c.sort_unstable_by_key.new.self.items)) all
    (IsPermutation-map (λ (r : Bor ReceiptValue). r.now) c.loop-receipt.sorted.items c.sort_unstable_by_key.new.self.items c.sort_unstable_by_key.ensures.permutation)

pub returns-clause-sorted : goal.returns-clause-sorted
returns-clause-sorted c =
    sorted_values c.sort_unstable_by_key.new.self.items (c.sort_unstable_by_key.ensures.sorted (λ r. receipt_key r.now) (answers_always _ _ _ (λ f a r g called. search rules)))
