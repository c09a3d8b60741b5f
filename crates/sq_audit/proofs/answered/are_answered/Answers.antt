use Rattle.std.proofs.Common.{◌≡◌, sym, ap, ◌∙◌}
use Rattle.std.specs.Prelude.{count_by}
use Rattle.sq_audit.specs.declared.job.Job.{Job}
use Rattle.sq_audit.specs.Answers.{is_of}
use Rattle.sq_audit.specs.ById.{is_id_and_root}
use Rattle.sq_audit.proofs.Listing.{item_at}
use Rattle.sq_audit.proofs.Each.{each_more, each_done, each_fails}
use Rattle.sq_audit.proofs.Searching.{listed_count}
use Rattle.sq_audit.proofs.answered.are_answered.Goals as goal
use Rattle.sq_audit.proofs.answered.are_answered.Goals.{After-count_of}

-- the count is that of the job's receipts
count_is : (c : After-count_of) → c.count_of.result ≡ count_by (is_of c.job-item.result.txn) c.args.receipts.now
count_is c =
    let txn = c.job-item.result.txn in
    c.count_of.ensures ∙ ap (count_by (is_id_and_root txn.id txn.root)) c.deref.ensures.value
    ∙ listed_count c.args.receipts.now c.in_ok-ids.ids.items c.in_ok-ids.ensures txn.id txn.root

pub returns-then-count_of-ne1 : goal.returns-then-count_of-ne1
returns-then-count_of-ne1 c =
    let job = c.job-item.result in
    let is = count_is (goal.at.returns-then-count_of-ne1 c).After-count_of in
    each_fails (λ (j : Job). count_by (is_of j.txn) c.args.receipts.now ≡ 1) c.args.jobs.now c.loop-job.job-index job
    (item_at c.args.jobs.now c.loop-job.job-index job c.job-item.is c.loop-job-test.true)
    (λ answered. c.if-count_of-ne1.true (is ∙ answered))

pub loop-job-preserved : goal.loop-job-preserved
loop-job-preserved c =
    let job = c.job-item.result in
    let is = count_is (goal.at.loop-job-preserved c).After-count_of in
    each_more (λ (j : Job). count_by (is_of j.txn) c.args.receipts.now ≡ 1) c.args.jobs.now c.loop-job.job-index job c.loop-job.invariant
    (item_at c.args.jobs.now c.loop-job.job-index job c.job-item.is c.loop-job-test.true)
    (sym is ∙ c.if-count_of-ne1.false)

pub returns : goal.returns
returns c = each_done (λ (j : Job). count_by (is_of j.txn) c.args.receipts.now ≡ 1) c.args.jobs.now c.loop-job.job-index c.loop-job.invariant c.loop-job-test.false
