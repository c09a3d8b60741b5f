use Rattle.std.proofs.lemmas.Result.{err_from_is_err_and}
use Rattle.sq_plan.specs.PlanValue.{PlanValue}
use Rattle.sq_text.proofs.HeaderRun.{line_read, none_read}
use Rattle.sq_text.proofs.header.plan_line.Goals as goal

pub returns-in_err-next_line-clause-plan : goal.returns-in_err-next_line-clause-plan
returns-in_err-next_line-clause-plan g c = let p = err_from_is_err_and c.from_residual.result c.from_residual.ensures.1 in rw (p.1, p.2) (none_read {X = PlanValue} (λ p. p) _ _ _ _ c.in_err-next_line.ensures.line)

pub returns-clause-plan : goal.returns-clause-plan
returns-clause-plan g c = line_read _ _ c.plan.result _ _ _ c.in_ok-next_line.ensures.line (rw (← c.piece.ensures) c.plan.ensures)
