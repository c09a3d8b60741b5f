use Rattle.sq_plan.proofs.Texts.{plan_text-plan}
use Rattle.sq_plan.proofs.laws.each_plan_is_read_back.Goals as goal

pub returns : goal.returns
returns c = plan_text-plan
