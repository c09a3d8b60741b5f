use Rattle.std.proofs.Common.{sym, ap, ◌∙◌}
use Rattle.sq_gather.specs.Prelude.{effect, reply, ReceiptValue}
use Rattle.sq_gather.proofs.Prelude.{reply_same}
use Rattle.sq_audit.proofs.told.is_answered.Goals as goal

pub returns-clause-answered : goal.returns-clause-answered
returns-clause-answered c =
    let rows = c.args.rows.now in
    let same = reply_same c.in_ok-reply.reply c.receipt.inside.reply in
    let told = ap (λ (r : ReceiptValue). r.reply) c.receipt.view_is in
    let is = c.in_ok-reply.ensures.reply ∙ ap (λ (r : ReceiptValue). reply rows r.txn) c.receipt.view_is in (
      (λ e. sym told ∙ sym (same.0 (sym c.eq.ensures ∙ e)) ∙ is),
      (λ answered. c.eq.ensures ∙ same.1 (is ∙ sym answered ∙ sym told)),
    )

pub returns-clause-rows : goal.returns-clause-rows
returns-clause-rows c = c.in_ok-reply.ensures.rows ∙ ap (λ (r : ReceiptValue). effect c.args.rows.now r.txn) c.receipt.view_is
