use Rattle.sq_plan.proofs.Spelled.{plan_of-ok, plan_of-spelled}
use Rattle.sq_plan.proofs.laws.each_plan_is_read.Goals as goal

pub returns : goal.returns
returns c = λ value plan. (plan_of-ok value plan, λ both. plan_of-spelled value plan both.0 both.1)
