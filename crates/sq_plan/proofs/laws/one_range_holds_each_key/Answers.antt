use Rattle.sq_plan.proofs.Owners.{held, owner_held}
use Rattle.sq_plan.proofs.laws.one_range_holds_each_key.Goals as goal

pub returns-clause-one : goal.returns-clause-one
returns-clause-one c = held

pub returns-clause-each : goal.returns-clause-each
returns-clause-each c = owner_held
