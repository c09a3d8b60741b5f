-- The traces whose answers are those that the definitions determine.
use Rattle.std.specs.Prelude.{◌≡◌, ◌⊎◌, Bool, true, false, IsTrue, List, [], ◌∷◌}
use Rattle.sq_moves.specs.OpeningValue.{OpeningValue}
use Rattle.sq_model.specs.declared.step.Step.{Step}
use Rattle.sq_model.specs.declared.step.Step.TheVariants.{Submit, Resume, Begin, Cut, Load, Fold}
use Rattle.sq_model.specs.declared.answer.Answer.{Answer}
use Rattle.sq_model.specs.declared.answer.Answer.TheVariants.{Done, Replied, Waits, Resumed, WasCut, WasLoaded, Refused}
use Rattle.sq_model.specs.declared.answer.Refusal.TheVariants.{Memory}
use Rattle.sq_model.specs.Trace.{Trace}
use Rattle.sq_model.specs.Answers.{answer}

-- a step with this answer takes memory: a transaction that runs, waits or is resumed, and a Begin,
-- a Cut, a Load or a Fold that is done
abbrev pub takes_memory : Step → Answer → Bool
takes_memory (Submit part txn) (Replied id reply) = true
takes_memory (Submit part txn) (Waits id seg leaf) = true
takes_memory (Resume part) (Resumed txn reply) = true
takes_memory (Begin seg node pull) Done = true
takes_memory (Cut src dst) (WasCut note families) = true
takes_memory (Load src dst) (WasLoaded note families) = true
takes_memory (Fold part) Done = true
takes_memory _ _ = false

-- the answer is the one that the trace determines, or, if the step takes memory, that it ran out
abbrev pub IsAnswer : OpeningValue → Trace → Step → Answer → Type 0
IsAnswer o t step given =
    (given ≡ answer o t step) ⊎ ((given ≡ Refused Memory) × IsTrue (takes_memory step (answer o t step)))

-- each answer is right after the trace before it
abbrev pub IsLegal : OpeningValue → Trace → Type 0
IsLegal o [] = Unit {0}
IsLegal o ((step, given) ∷ trace) = IsAnswer o trace step given × IsLegal o trace

-- the history after steps, one after another, if memory never runs out
abbrev pub after : OpeningValue → Trace → List Step → Trace
after o t [] = t
after o t (step ∷ steps) = after o ((step, answer o t step) ∷ t) steps

-- the answers to steps, one after another, if memory never runs out
abbrev pub answers : OpeningValue → Trace → List Step → List Answer
answers o t [] = []
answers o t (step ∷ steps) = answer o t step ∷ answers o ((step, answer o t step) ∷ t) steps
