use Rattle.std.proofs.Common.{List, sym, ◌∙◌, subst}
use Rattle.sq_audit.specs.declared.job.Job.{Job}
use Rattle.sq_audit.specs.Answers.{IdsDiffer}
use Rattle.sq_audit.specs.Defects.{IsVerdict}
use Rattle.sq_audit.specs.Sound.{with_receipts}
use Rattle.sq_audit.proofs.Folds.{prepared_of}
use Rattle.sq_audit.proofs.folding.prepare.Goals as goal

pub audit-requires : goal.audit-requires
audit-requires c = subst IdsDiffer (sym c.deref.ensures.value) c.in_ok-answered.ensures.differ

pub returns : goal.returns
returns c =
    let o = c.args.opening.now in
    let receipts = c.args.receipts.now in
    let g = with_receipts c.args.g.now receipts in
    let verdict = c.in_ok-verdict.verdict in
    let judged = subst (λ (jobs : List Job). IsVerdict o g jobs verdict) (c.deref.ensures.value ∙ c.in_ok-answered.ensures.jobs) c.in_ok-verdict.ensures in
    prepared_of o c.args.g.now receipts c.args.jobs.now c.in_ok-answered.answered.ids.items verdict c.in_ok-answered.ensures.ids judged c.make_ready.result c.make_ready.ensures
