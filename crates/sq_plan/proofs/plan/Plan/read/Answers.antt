-- What the JSON value is read as, in terms of the bytes.
use Rattle.serde_json.specs.View.{view}
use Rattle.sq_plan.proofs.Bytes.{found, only, json_of-some, not_refused}
use Rattle.sq_plan.proofs.plan.Plan.read.Goals as goal

pub returns-clause-found : goal.returns-clause-found
returns-clause-found c = found _ _ _ c.in_ok-value.ensures c.plan_of.ensures.gives

pub returns-clause-only : goal.returns-clause-only
returns-clause-only c = only _ _ _ c.in_ok-value.ensures c.plan_of.ensures.gives

pub returns-clause-memory : goal.returns-clause-memory
returns-clause-memory c = λ lacking. json_of-some _ _ c.in_ok-value.ensures

pub returns-clause-no_json : goal.returns-clause-no_json
returns-clause-no_json c = λ refused. absurd (not_refused _ (view c.in_ok-value.value) c.plan_of.ensures.gives refused)
