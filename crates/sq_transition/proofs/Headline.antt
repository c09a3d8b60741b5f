-- Each step keeps what holds, and is answered as the history says.
use Rattle.std.proofs.Common.{subst, ⊎_elim, inl, inr, ◌≡◌, ◌∷◌, sym, ap, ◌∙◌}
use Rattle.std.specs.Prelude.{IsTrue}
use Rattle.sq_moves.specs.OpeningValue.{OpeningValue}
use Rattle.sq_model.specs.declared.step.Step.{Step}
use Rattle.sq_model.specs.declared.step.Step.TheVariants.{Prepare, Start, Submit, Resume, Split, Claim, Begin, Cut, Push, Pop, Load, Complete, Report, Next, Finish, Status, Fold}
use Rattle.sq_model.specs.declared.answer.Answer.{Answer}
use Rattle.sq_model.specs.declared.answer.Answer.TheVariants.{Refused}
use Rattle.sq_model.specs.declared.answer.Refusal.TheVariants.{Memory}
use Rattle.sq_model.specs.Trace.{Trace}
use Rattle.sq_model.specs.Answers.{answer}
use Rattle.sq_model.specs.Legal.{IsAnswer, takes_memory}
use Rattle.sq_transition.specs.WorldValue.{WorldValue}
use Rattle.sq_transition.specs.Transition.{step_result, IsTransition}
use Rattle.sq_transition.specs.Holds.{Holds}
use Rattle.sq_transition.proofs.Changed.{PartsHold, parts_hold, holds}
use Rattle.sq_transition.proofs.Kept.{refused}
use Rattle.sq_transition.proofs.Keeps.{Keeps}
use Rattle.sq_transition.proofs.Leader.{prepare_keeps, start_keeps, report_keeps, next_keeps, finish_keeps}
use Rattle.sq_transition.proofs.Nodes.{split_keeps, claim_keeps, complete_keeps, status_keeps}
use Rattle.sq_transition.proofs.PushPop.{push_keeps, pop_keeps}
use Rattle.sq_transition.proofs.Begins.{BeginFacts, begin_keeps}
use Rattle.sq_transition.proofs.Runs.{RunningFacts}
use Rattle.sq_transition.proofs.Submits.{submit_keeps}
use Rattle.sq_transition.proofs.Resumes.{resume_keeps}
use Rattle.sq_transition.proofs.Loads.{LoadFacts, load_keeps}
use Rattle.sq_transition.proofs.Cuts.{CutFacts, cut_keeps}
use Rattle.sq_transition.proofs.Folds.{FoldFacts, fold_keeps}

-- what the steps rest on, of traces alone
pub record StepFacts (o : OpeningValue) (t : Trace) : Type 0 where
  pub begins : BeginFacts o t
  pub runs : RunningFacts o t
  pub loads : LoadFacts o t
  pub cuts : CutFacts o t
  pub folds : FoldFacts o t

pub result_keeps : (o : OpeningValue) (t : Trace) (w : WorldValue) (step : Step) → StepFacts o t → PartsHold o t w → Keeps o t step (step_result w step) (answer o t step)
result_keeps o t w (Prepare part) facts h = prepare_keeps o t w part h
result_keeps o t w Start facts h = start_keeps o t w h
result_keeps o t w (Submit part txn) facts h = submit_keeps o t w part txn facts.runs h
result_keeps o t w (Resume part) facts h = resume_keeps o t w part facts.runs h
result_keeps o t w (Split seg node) facts h = split_keeps o t w seg node h
result_keeps o t w (Claim seg node pull) facts h = claim_keeps o t w seg node pull h
result_keeps o t w (Begin seg node pull) facts h = begin_keeps o t w seg node pull facts.begins h
result_keeps o t w (Cut src dst) facts h = cut_keeps o t w src dst facts.cuts h
result_keeps o t w (Push src dst) facts h = push_keeps o t w src dst h
result_keeps o t w (Pop src dst) facts h = pop_keeps o t w src dst h
result_keeps o t w (Load src dst) facts h = load_keeps o t w src dst facts.loads h
result_keeps o t w (Complete seg node pull) facts h = complete_keeps o t w seg node pull facts.begins.ends h
result_keeps o t w (Report part) facts h = report_keeps o t w part h
result_keeps o t w Next facts h = next_keeps o t w h
result_keeps o t w Finish facts h = finish_keeps o t w h
result_keeps o t w (Fold part) facts h = fold_keeps o t w part facts.folds h
result_keeps o t w (Status seg node) facts h = status_keeps o t w seg node h

-- a step is answered as the history says, and leads to the world that the longer history leads to
pub transition_keeps : (o : OpeningValue) (t : Trace) (old new : WorldValue) (step : Step) (given : Answer) → StepFacts o t → Holds o t old → IsTransition old step given new
    → IsAnswer o t step given × Holds o ((step, given) ∷ t) new
transition_keeps o t old new step given facts h transition =
    let kept = result_keeps o t old step facts (parts_hold o t old h) in
    ⊎_elim
    (λ (went : (given, new) ≡ step_result old step). (
      inl (ap (λ p. p.0) went ∙ kept.0),
      subst (λ (p : Answer × WorldValue). Holds o ((step, p.0) ∷ t) p.1) (sym went) (holds o ((step, (step_result old step).0) ∷ t) (step_result old step).1 kept.1),
    ))
    (λ (lacked : (given ≡ Refused Memory) × IsTrue (takes_memory step (step_result old step).0) × (new ≡ old)). (
      inr (lacked.0, subst (λ a. IsTrue (takes_memory step a)) kept.0 lacked.1),
      subst (λ (p : Answer × WorldValue). Holds o ((step, p.0) ∷ t) p.1) (λ k. (sym lacked.0 k, sym lacked.2 k)) (holds o ((step, Refused Memory) ∷ t) old (refused o t old step Memory (parts_hold o t old h))),
    ))
    transition
