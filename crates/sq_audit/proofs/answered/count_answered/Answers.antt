use Rattle.std.proofs.Common.{ap, ◌∙◌}
use Rattle.std.specs.Prelude.{count_by}
use Rattle.std.proofs.lemmas.List.{take_all}
use Rattle.sq_audit.specs.ById.{is_listed}
use Rattle.sq_audit.proofs.Folds.{listed_are}
use Rattle.sq_audit.proofs.answered.count_answered.Goals as goal

pub returns-clause-answered : goal.returns-clause-answered
returns-clause-answered c =
    let ids = c.in_ok-ids.ids.items in
    c.loop-job.invariant.0
    ∙ ap (count_by (is_listed ids)) (take_all c.loop-job.job-index c.args.jobs.now c.loop-job-test.false)
    ∙ listed_are c.args.receipts.now ids c.in_ok-ids.ensures c.args.jobs.now
