-- The law of each step.
use Rattle.std.specs.Prelude.{◌∷◌}
use Rattle.sq_moves.specs.OpeningValue.{OpeningValue}
use Rattle.sq_moves.specs.Opening.{IsOpening}
use Rattle.sq_model.specs.declared.step.Step.{Step}
use Rattle.sq_model.specs.declared.answer.Answer.{Answer}
use Rattle.sq_model.specs.Trace.{Trace}
use Rattle.sq_model.specs.Legal.{IsLegal}
use Rattle.sq_transition.specs.WorldValue.{WorldValue}
use Rattle.sq_transition.specs.Transition.{IsTransition}
use Rattle.sq_transition.specs.Holds.{Holds}
use Rattle.sq_transition.specs.Headline.{KeepsHeadline}

-- if the steps so far were answered legally and lead to the world, the next step keeps the headline
abbrev pub EachStepKeepsHeadline : Type 0
EachStepKeepsHeadline =
    (o : OpeningValue) (t : Trace) (old new : WorldValue) (step : Step) (given : Answer) → IsOpening o → IsLegal o t
    → Holds o t old → IsTransition old step given new → KeepsHeadline o ((step, given) ∷ t) new
