-- On a legal trace each step rests on firm ground: what the steps ask of the trace holds. So each of them keeps what holds.
use Rattle.std.proofs.Common.{◌≡◌, true, false, ◌∷◌, refl, sym, true≢false}
use Rattle.sq_moves.specs.declared.status.Status.{Status}
use Rattle.sq_moves.specs.declared.status.Status.TheVariants.{Claimed}
use Rattle.sq_moves.specs.Status.{is_claimed, is_begun}
use Rattle.sq_moves.specs.OpeningValue.{OpeningValue}
use Rattle.sq_moves.specs.Opening.{IsOpening}
use Rattle.sq_model.specs.declared.step.Step.{Step}
use Rattle.sq_model.specs.declared.answer.Answer.{Answer}
use Rattle.sq_model.specs.Trace.{Trace}
use Rattle.sq_model.specs.Nodes.{status_of}
use Rattle.sq_model.specs.Legal.{IsLegal}
use Rattle.sq_model.proofs.Notes.{unbegun_none}
use Rattle.sq_model.proofs.Keys.{linked, ends_below}
use Rattle.sq_model.proofs.Orderly.{legal_orderly}
use Rattle.sq_transition.specs.WorldValue.{WorldValue}
use Rattle.sq_transition.specs.Transition.{IsTransition}
use Rattle.sq_transition.specs.Holds.{Holds}
use Rattle.sq_transition.specs.Headline.{KeepsHeadline}
use Rattle.sq_transition.proofs.Begins.{BeginFacts}
use Rattle.sq_transition.proofs.LinkFacts.{load_facts, cut_facts}
use Rattle.sq_transition.proofs.ServingFacts.{running_facts, fold_facts}
use Rattle.sq_transition.proofs.Headline.{StepFacts, transition_keeps}

-- a node that is claimed isn't begun
claimed_unbegun : (st : Status) → is_claimed st ≡ true → is_begun st ≡ false
claimed_unbegun (Claimed pull) claimed = refl
claimed_unbegun st claimed = absurd (true≢false (sym claimed))

begin_facts : (o : OpeningValue) (t : Trace) → IsOpening o → IsLegal o t → BeginFacts o t
begin_facts o t is legal = record {
  fresh = λ seg node claimed. unbegun_none o t legal seg node (claimed_unbegun (status_of t seg node) claimed);
  linked = linked o is;
  ends = λ seg range there. let below = ends_below o is seg range there in record { source = below.0; destination = below.1 };
}

-- what the steps rest on
pub step_facts : (o : OpeningValue) (t : Trace) → IsOpening o → IsLegal o t → StepFacts o t
step_facts o t is legal = record { begins = begin_facts o t is legal; runs = running_facts o is t legal; loads = load_facts o t is legal; cuts = cut_facts o t is legal; folds = fold_facts o is t legal }

-- each step leads from a world of its history to one of the longer history, which stays legal and orderly
pub headline : (o : OpeningValue) (t : Trace) (old new : WorldValue) (step : Step) (given : Answer) → IsOpening o → IsLegal o t → Holds o t old → IsTransition old step given new → KeepsHeadline o ((step, given) ∷ t) new
headline o t old new step given is legal holds transition =
    let went = transition_keeps o t old new step given (step_facts o t is legal) holds transition in
    record { legal = (went.0, legal); orderly = legal_orderly o ((step, given) ∷ t) is (went.0, legal); holds = went.1 }
