-- The result of a step, whichever it is.
use Rattle.std.proofs.Common.{◌≡◌, Result, Ok, sym, ap, ◌∙◌, subst}
use Rattle.sq_model.specs.declared.step.Step.{Step}
use Rattle.sq_model.specs.declared.answer.Answer.{Answer}
use Rattle.sq_model.specs.declared.answer.Refusal.{Refusal}
use Rattle.sq_transition.specs.WorldValue.{WorldValue}
use Rattle.sq_transition.specs.Transition.{IsTransition}
use Rattle.sq_world.specs.Results.{answer_of}

-- a step that was done by its own function
pub done_by : (old new after : WorldValue) (asked step : Step) (whole result : Result Answer Refusal) (answer : Answer) → asked ≡ step → whole ≡ Ok answer → whole ≡ result → new ≡ after
    → IsTransition old step (answer_of result) after → IsTransition old asked answer new
done_by old new after asked step whole result answer asked_is is whole_is new_is comes =
    let answer_is : answer ≡ answer_of result = ap answer_of (sym is ∙ whole_is) in
    subst (λ (all : Step × (Answer × WorldValue)). IsTransition old all.0 all.1.0 all.1.1) (sym (λ k. (asked_is k, (answer_is k, new_is k)))) comes
