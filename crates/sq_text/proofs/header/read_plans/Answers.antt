use Rattle.std.proofs.lemmas.Result.{err_from_is_err_and}
use Rattle.sq_text.proofs.HeaderRun.{no_first, plans_fit, plans_refused}
use Rattle.sq_text.proofs.header.read_plans.Goals as goal

pub returns-in_err-first-clause-plans : goal.returns-in_err-first-clause-plans
returns-in_err-first-clause-plans g c = let p = err_from_is_err_and c.from_residual.result c.from_residual.ensures.1 in rw (p.1, p.2) (no_first c.args.schema _ _ _ c.in_err-first.ensures.first)

pub returns-in-Ok-clause-plans : goal.returns-in-Ok-clause-plans
returns-in-Ok-clause-plans g c = plans_fit c.args.schema c.in_ok-first.first _ _ c.in_ok-first.ensures.first c.in-Ok.opening c.in-Ok.ensures.fault c.in-Ok.ensures.ok

pub returns-in-Err-clause-plans : goal.returns-in-Err-clause-plans
returns-in-Err-clause-plans g c = rw c.from.ensures (plans_refused c.args.schema c.in_ok-first.first _ _ c.in_ok-first.ensures.first c.in-Err.refused.fault c.in-Err.ensures.fault)
