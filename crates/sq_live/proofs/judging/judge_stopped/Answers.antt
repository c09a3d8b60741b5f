use Rattle.std.proofs.Common.{◌≤◌, inl, List, length, ap, ◌∙◌, subst}
use Rattle.sq_audit.specs.declared.job.Job.{Job}
use Rattle.sq_live.specs.Account.{AccountValue}
use Rattle.sq_live.specs.Outcome.{answered_count}
use Rattle.sq_live.proofs.judging.judge_stopped.Goals as goal

pub stopped-requires-clause-answered : goal.stopped-requires-clause-answered
stopped-requires-clause-answered c =
    let receipts = c.requires.told in
    let jobs = c.deref.ensures.value ∙ ap (λ (a : AccountValue). a.jobs) c.account.view_is in
    c.in_ok-answered.ensures.answered ∙ (λ i. answered_count (receipts i) (jobs i))

pub stopped-requires-clause-most : goal.stopped-requires-clause-most
stopped-requires-clause-most c =
    let jobs = c.deref.ensures.value ∙ ap (λ (a : AccountValue). a.jobs) c.account.view_is in
    subst (λ (list : List Job). c.in_ok-answered.answered ≤ length list) jobs c.in_ok-answered.ensures.most

pub stopped-requires-clause-why : goal.stopped-requires-clause-why
stopped-requires-clause-why c = inl c.requires.missing
