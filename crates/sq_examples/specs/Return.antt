-- What is left of an engine whose rows moved to another plan and back.
use Rattle.std.specs.Prelude.{◌≡◌}
use Rattle.sq_plan.specs.PlanValue.{PlanValue}
use Rattle.sq_moves.specs.OpeningValue.{OpeningValue}
use Rattle.sq_engine.specs.Values.{EngineValue}
use Rattle.sq_engine.specs.Engine.{verdict_on}
use Rattle.sq_engine.specs.Ending.{EndsAsPlanned}
use Rattle.sq_examples.specs.declared.engine.CameBack.{CameBack}

-- an engine went on, and rows go to the same plan
pub record StaysAt (old new : EngineValue) : Type 0 where
  pub first : new.first ≡ old.first
  pub plan : new.opening.new ≡ old.opening.new

-- an engine went on, and rows go to `plan`
pub record GoesTo (plan : PlanValue) (old new : EngineValue) : Type 0 where
  pub first : new.first ≡ old.first
  pub goes : new.opening.new ≡ plan

-- an engine that opened with `o` was closed, and ended as planned, with the plan that it began with
pub record HasComeBack (o : OpeningValue) (came : CameBack) : Type 0 where
  pub first : came.engine.first ≡ o
  pub back : came.engine.opening.new ≡ o.new
  pub planned : EndsAsPlanned came.engine
  pub verdict : came.verdict ≡ verdict_on came.engine.jobs
