use Rattle.std.proofs.Common.{List, sym, ap, ◌∙◌, subst, ℕ, filter}
use Rattle.sq_audit.specs.Answers.{IdsDiffer}
use Rattle.sq_audit.specs.ById.{AreById, is_listed}
use Rattle.sq_audit.proofs.Folds.{some_differ, answered_by}
use Rattle.sq_audit.proofs.folding.list_answered.Goals as goal

pub copy_answered-requires : goal.copy_answered-requires
copy_answered-requires c = subst AreById (sym c.deref.ensures.value) c.in_ok-ids.ensures.by_id

-- the jobs that were copied are those that have a receipt
pub returns-clause-jobs : goal.returns-clause-jobs
returns-clause-jobs c =
    c.in_ok-answered.ensures
    ∙ ap (λ (ids : List (ℕ × ℕ)). filter (is_listed ids) c.args.jobs.now) c.deref.ensures.value
    ∙ answered_by c.args.receipts.now c.in_ok-ids.ids.items c.in_ok-ids.ensures c.args.jobs.now

pub returns-clause-differ : goal.returns-clause-differ
returns-clause-differ c = subst IdsDiffer (sym c.in_ok-answered.ensures) (some_differ (is_listed c.deref.result.now) c.args.jobs.now c.requires)
