use Rattle.std.proofs.Common.{Contains, Some, None, sym, ap, ◌∙◌, subst}
use Rattle.sq_gather.specs.Prelude.{ReceiptValue}
use Rattle.sq_gather.proofs.Prelude.{txn_same}
use Rattle.sq_audit.proofs.Each.{looked_up}
use Rattle.sq_audit.proofs.Jobs.{posted_at, none_listed, none_at}
use Rattle.sq_audit.proofs.posted.is_posted.Goals as goal

pub returns-in_default : goal.returns-in_default
returns-in_default c =
    let jobs = c.args.jobs.now in
    let receipt = c.args.receipt.now in
    let id = c.id.ensures ∙ ap (λ (r : ReceiptValue). r.txn.id) c.receipt.view_is in
    none_listed jobs c.requires.ids c.args.places.now c.requires.places receipt
    (λ place listed. c.in_default.ensures.none place (subst (λ n. Contains c.args.places.now (n, place)) (sym id) listed))

pub returns-in-Some-get : goal.returns-in-Some-get
returns-in-Some-get c =
    let jobs = c.args.jobs.now in
    let receipt = c.args.receipt.now in
    let place = c.in-Some.place in
    let id = c.id.ensures ∙ ap (λ (r : ReceiptValue). r.txn.id) c.receipt.view_is in
    let listed = subst (λ n. Contains c.args.places.now (n, place)) id c.in-Some.ensures.some in
    let job = c.in-Some-get.job.now in
    let there = sym (looked_up jobs place (Some c.in-Some-get.job) c.in-Some-get.ensures.lookup) in
    let same = txn_same job.txn c.receipt.inside.txn in
    let txn = ap (λ (r : ReceiptValue). r.txn) c.receipt.view_is in
    posted_at jobs c.requires.ids c.args.places.now c.requires.places receipt place listed job c.eq.result there
    ((λ e. same.0 (sym c.eq.ensures ∙ e) ∙ txn), (λ is. c.eq.ensures ∙ same.1 (is ∙ sym txn)))

pub returns-in-None : goal.returns-in-None
returns-in-None c =
    let jobs = c.args.jobs.now in
    let receipt = c.args.receipt.now in
    let place = c.in-Some.place in
    let id = c.id.ensures ∙ ap (λ (r : ReceiptValue). r.txn.id) c.receipt.view_is in
    let listed = subst (λ n. Contains c.args.places.now (n, place)) id c.in-Some.ensures.some in
    none_at jobs c.requires.ids c.args.places.now c.requires.places receipt place listed
    (sym (looked_up jobs place None c.in-None.ensures.lookup))
