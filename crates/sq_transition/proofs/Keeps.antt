-- A step keeps what holds, and is answered as the history says: put together from its cases.
use Rattle.std.proofs.Common.{◌≡◌, Bool, true, false, ◌∷◌, refl, sym, ap, true≢false}
use Rattle.std.specs.Prelude.{if◌then◌else◌, not}
use Rattle.std.proofs.lemmas.Bool.{not-false}
use Rattle.sq_moves.specs.OpeningValue.{OpeningValue}
use Rattle.sq_model.specs.declared.step.Step.{Step}
use Rattle.sq_model.specs.declared.answer.Answer.{Answer}
use Rattle.sq_model.specs.declared.answer.Answer.TheVariants.{Refused}
use Rattle.sq_model.specs.declared.answer.Refusal.{Refusal}
use Rattle.sq_model.specs.declared.answer.Refusal.TheVariants.{NotMoving}
use Rattle.sq_model.specs.Trace.{Trace}
use Rattle.sq_model.specs.Leader.{is_moving, is_moving_phase}
use Rattle.sq_model.specs.Answers.{while_moving}
use Rattle.sq_transition.specs.WorldValue.{WorldValue}
use Rattle.sq_transition.specs.LeaderResults.{StepResult, refuse, if_moving}
use Rattle.sq_transition.proofs.Changed.{PartsHold}
use Rattle.sq_transition.proofs.Kept.{refused}

-- what was result is the answer, and the world after it is the one that the longer trace leads to
abbrev pub Keeps : OpeningValue → Trace → Step → StepResult → Answer → Type 0
Keeps o t step result answer = (result.0 ≡ answer) × PartsHold o ((step, result.0) ∷ t) result.1

pub keeps_if : (o : OpeningValue) (t : Trace) (step : Step) (b c : Bool) (one other : StepResult) (this that : Answer) → b ≡ c
    → (c ≡ true → Keeps o t step one this) → (c ≡ false → Keeps o t step other that)
    → Keeps o t step (if b then one else other) (if c then this else that)
keeps_if o t step true true one other this that same here there = here refl
keeps_if o t step true false one other this that same here there = absurd (true≢false same)
keeps_if o t step false true one other this that same here there = absurd (true≢false (sym same))
keeps_if o t step false false one other this that same here there = there refl

pub keeps_refused : (o : OpeningValue) (t : Trace) (w : WorldValue) (step : Step) (r : Refusal) → PartsHold o t w → Keeps o t step (refuse w r) (Refused r)
keeps_refused o t w step r h = (refl, refused o t w step r h)

-- a step that only goes while the move is under way, which it then is
pub keeps_while_moving : (o : OpeningValue) (t : Trace) (w : WorldValue) (step : Step) (result : StepResult) (answer : Answer) → PartsHold o t w
    → (is_moving t ≡ true → Keeps o t step result answer) → Keeps o t step (if_moving w result) (while_moving t answer)
keeps_while_moving o t w step result answer h kept =
    keeps_if o t step _ _ _ _ _ _ (ap (λ phase. not (is_moving_phase phase)) h.leader.phase) (λ _. keeps_refused o t w step NotMoving h)
    (λ moving. kept (not-false (is_moving t) moving))

-- the same for a step that needn't know it
pub keeps_moving : (o : OpeningValue) (t : Trace) (w : WorldValue) (step : Step) (result : StepResult) (answer : Answer) → PartsHold o t w
    → Keeps o t step result answer → Keeps o t step (if_moving w result) (while_moving t answer)
keeps_moving o t w step result answer h kept = keeps_while_moving o t w step result answer h (λ _. kept)
