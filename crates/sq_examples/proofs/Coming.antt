-- How an engine goes to a plan and back, step by step.
use Rattle.std.proofs.Common.{◌≡◌, ℕ, sym, ap, ◌∙◌, subst}
use Rattle.std.specs.Prelude.{Option, Some, None, Result, Ok, Err, IfOk, MatchResult, OnSome}
use Rattle.std.specs.Result.{result_ok}
use Rattle.std.proofs.lemmas.Option.{same_Some, none-some}
use Rattle.sq_plan.specs.PlanValue.{PlanValue}
use Rattle.sq_moves.specs.OpeningValue.{OpeningValue}
use Rattle.sq_engine.specs.Values.{EngineValue}
use Rattle.sq_engine.specs.Clients.{ClientCall}
use Rattle.sq_engine.specs.declared.serving.EpochEnd.{EpochEnd}
use Rattle.sq_engine.specs.Engine.{HasOpened, ServesEpoch, HasBegunMove, HasClosed, verdict_on}
use Rattle.sq_engine.specs.Ending.{EndsAsPlanned}
use Rattle.sq_examples.specs.declared.engine.CameBack.{CameBack}
use Rattle.sq_examples.specs.Return.{StaysAt, GoesTo, HasComeBack}

-- what holds of the value of a result holds of the value that was taken from it
pub from_ok : {A E : Type 0} (P : A → Type 0) (r : Result A E) (a : A) → Some a ≡ result_ok r → IfOk r P → P a
from_ok P (Ok v) a is holds = subst P (sym (same_Some a v is)) holds
from_ok P (Err e) a is holds = absurd (none-some a (sym is))

-- what is said of the value of a result alone
pub value_holds : {A E : Type 0} (P : A → Type 0) (Q : E → Type 0) (r : Result A E) → MatchResult r P Q → IfOk r P
value_holds P Q (Ok v) cases = cases
value_holds P Q (Err e) cases = tt

-- what holds in any case holds if there is a value
pub on_some : {A : Type 0} (o : Option A) (P : Type 0) → P → OnSome o P
on_some (Some a) P holds = holds
on_some None P holds = tt

-- an epoch leaves the plan that rows go to
pub served_stays : {X : Type 0} {becomes : X → ClientCall → X → Type 0} {old new : EngineValue} {before after : X} {end : EpochEnd}
    → ServesEpoch becomes old before end new after → StaysAt old new
served_stays served = record { first = served.epoch.first; plan = served.epoch.plan }

-- a move begins
pub begun_goes : {plan : PlanValue} {limit : ℕ} {old new : EngineValue} → HasBegunMove plan limit old new → GoesTo plan old new
begun_goes begun = record { first = begun.first; goes = ap (λ (o : OpeningValue). o.new) begun.opening }

-- an engine that goes to a plan stays there
pub goes_on : {plan : PlanValue} {first old new : EngineValue} → GoesTo plan first old → StaysAt old new → GoesTo plan first new
goes_on goes stays = record { first = stays.first ∙ goes.first; goes = stays.plan ∙ goes.goes }

-- an engine that went to a plan and back, and was closed
pub comes_back : {o : OpeningValue} {there back : PlanValue} {first there_from back_from end_from end : EngineValue} (came : CameBack)
    → HasOpened o first → StaysAt first there_from → GoesTo there there_from back_from → GoesTo back back_from end_from → StaysAt end_from end
    → back ≡ o.new → HasClosed end came.engine → EndsAsPlanned came.engine → came.verdict ≡ verdict_on came.engine.jobs
    → HasComeBack o came
comes_back came opened served went returned rested is closed planned verdict =
    record {
      first = ap (λ (engine : EngineValue). engine.first) closed.keeps.same ∙ rested.first ∙ returned.first ∙ went.first ∙ served.first ∙ opened.first;
      back = ap (λ (engine : EngineValue). engine.opening.new) closed.keeps.same ∙ rested.plan ∙ returned.goes ∙ is;
      planned = planned;
      verdict = verdict;
    }
