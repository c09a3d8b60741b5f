use Rattle.std.proofs.Common.{◌≡◌, Bool, false, sym, ap, ◌∙◌, subst, true≢false}
use Rattle.std.specs.Bool.{Decides}
use Rattle.std.proofs.lemmas.Bool.Decides.{Decides-like}
use Rattle.sq_gather.specs.Prelude.{RowList, rows_in, ReceiptValue, is_commit}
use Rattle.sq_audit.specs.Answers.{IsAbortOn}
use Rattle.sq_audit.specs.Told.{IsReplyOn}
use Rattle.sq_audit.proofs.Each.{decides_not, no_some}
use Rattle.sq_audit.proofs.Knowing.{ok_like}
use Rattle.sq_audit.proofs.told.tells_no_log.Goals as goal

pub returns-then-receipt-ne0 : goal.returns-then-receipt-ne0
returns-then-receipt-ne0 c =
    let view = ap (λ (r : ReceiptValue). r.position) c.receipt.view_is in
    decides_not (λ abort. c.if-receipt-ne0.true (view ∙ abort.0))

pub returns-then-commits : goal.returns-then-commits
returns-then-commits c = decides_not (λ abort. no_some c.args.receipt.now.txn (abort.1.1 (sym c.commits.ensures ∙ c.if-commits.true)))

pub returns : goal.returns
returns c =
    let receipt = c.args.receipt.now in
    let base = rows_in c.args.table.now receipt.txn.root in
    let same : c.in_ok-rows.rows ≡ base = c.in_ok-rows.ensures ∙ ap (rows_in c.args.table.now) c.root.ensures ∙ ap (λ (r : ReceiptValue). rows_in c.args.table.now r.txn.root) c.receipt.view_is in
    let first : receipt.position ≡ 0 = sym (ap (λ (r : ReceiptValue). r.position) c.receipt.view_is) ∙ c.if-receipt-ne0.false in
    let aborts : is_commit receipt.reply ≡ false = sym c.commits.ensures ∙ c.if-commits.false in
    ok_like {P = λ (b : Bool). Decides b (IsReplyOn c.in_ok-rows.rows receipt)} {Q = λ (b : Bool). Decides b (IsAbortOn base receipt)} c.is_answered.result
    (λ b decides.
    Decides-like b
    (λ told. (first, (told, (λ commits. absurd (true≢false (sym commits ∙ aborts))))))
    (λ abort. abort.1.0)
    (subst (λ (rows : RowList). Decides b (IsReplyOn rows receipt)) same decides))
    c.is_answered.ensures.answered
