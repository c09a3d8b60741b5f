-- A script that is being written.
use Rattle.std.proofs.Common.{◌≡◌, ℕ, false, List, [], ◌∷◌, ◌++◌, map, inl, inr, refl, sym, ap, ◌∙◌, subst, append_assoc}
use Rattle.std.specs.Prelude.{All}
use Rattle.std.specs.List.{flat_map}
use Rattle.std.proofs.lemmas.List.{append-nil}
use Rattle.std.proofs.lemmas.List.Elements.{All-nil, All-push}
use Rattle.sq_moves.specs.OpeningValue.{OpeningValue}
use Rattle.sq_moves.specs.Opening.{IsOpening}
use Rattle.sq_model.specs.declared.step.Step.{Step}
use Rattle.sq_model.specs.declared.answer.Answer.{Answer}
use Rattle.sq_model.specs.declared.answer.Answer.TheVariants.{Refused}
use Rattle.sq_model.specs.declared.answer.Refusal.TheVariants.{Memory}
use Rattle.sq_model.specs.Trace.{Trace}
use Rattle.sq_model.specs.Answers.{answer}
use Rattle.sq_model.specs.Legal.{IsLegal, IsAnswer, answers, after}
use Rattle.sq_transition.specs.Holds.{Holds}
use Rattle.sq_transition.specs.Headline.{KeepsHeadline}
use Rattle.sq_world.specs.Script.{LeadsTo}
use Rattle.sq_world.specs.declared.draft.Draft.{Draft}
use Rattle.sq_world.specs.declared.move_step.MoveStep.{MoveStep}
use Rattle.sq_world.specs.Lines.{step_of_move, NumbersFit, move_line, IsReadBack}
use Rattle.sq_world.specs.Scripts.{is_refusal}
use Rattle.sq_world.specs.Drafts.{IsDraftOf, DraftGoesOn}
use Rattle.sq_world.proofs.ReadBack.{line_is_read}

-- one more step at the end
after_last : (o : OpeningValue) (t : Trace) (steps : List MoveStep) (step : MoveStep) → after o t (map step_of_move (steps ++ step ∷ [])) ≡ (step_of_move step, answer o (after o t (map step_of_move steps)) (step_of_move step)) ∷ after o t (map step_of_move steps)
after_last o t [] step = refl
after_last o t (first ∷ steps) step = after_last o ((step_of_move first, answer o t (step_of_move first)) ∷ t) steps step

answers_last : (o : OpeningValue) (t : Trace) (steps : List MoveStep) (step : MoveStep) → answers o t (map step_of_move (steps ++ step ∷ [])) ≡ answers o t (map step_of_move steps) ++ answer o (after o t (map step_of_move steps)) (step_of_move step) ∷ []
answers_last o t [] step = refl
answers_last o t (first ∷ steps) step =
    let given = answer o t (step_of_move first) in
    ap (λ (others : List Answer). given ∷ others) (answers_last o ((step_of_move first, given) ∷ t) steps step)

lines_last : (steps : List MoveStep) (step : MoveStep) → flat_map move_line steps ++ move_line step ≡ flat_map move_line (steps ++ step ∷ [])
lines_last [] step = sym (append-nil (move_line step))
lines_last (first ∷ steps) step =
    append_assoc (move_line first) (flat_map move_line steps) (move_line step) ∙ ap (λ (t : List ℕ). move_line first ++ t) (lines_last steps step)

-- what isn't refused is answered as the history has it
as_history_has : (o : OpeningValue) (t : Trace) (step : MoveStep) (given : Answer) → IsAnswer o t (step_of_move step) given → is_refusal given ≡ false → given ≡ answer o t (step_of_move step)
as_history_has o t step given is not_refused =
    elim is [
      | inl same ↦ same
      | inr refused ↦ absurd (refusal_refused (subst (λ a. is_refusal a ≡ false) refused.0 not_refused))
    ]
  where
    refusal_refused : is_refusal (Refused Memory) ≡ false → ⊥
    refusal_refused e = cc

-- a step that was made, and isn't refused, continues
pub goes_on : (old new : Draft) (step : MoveStep) (made : Step) (given : Answer) → made ≡ step_of_move step → NumbersFit step → is_refusal given ≡ false
    → ((o : OpeningValue) (t : Trace) → IsOpening o → IsLegal o t → Holds o t old.world → KeepsHeadline o ((made, given) ∷ t) new.world)
    → new.text.items ≡ old.text.items ++ move_line step → DraftGoesOn old new
goes_on old new step made given is fit not_refused headline wrote = λ o draft.
    let t = after o [] (map step_of_move draft.steps) in
    let keeps = subst (λ (s : Step). KeepsHeadline o ((s, given) ∷ t) new.world) is (headline o t draft.leads.is_opening draft.leads.legal draft.leads.holds) in
    let same = as_history_has o t step given keeps.legal.0 not_refused in
    let history = ap (λ (a : Answer). (step_of_move step, a) ∷ t) same ∙ sym (after_last o [] draft.steps step) in
    record {
      steps = draft.steps ++ step ∷ [];
      says = wrote ∙ ap (λ (text : List ℕ). text ++ move_line step) draft.says ∙ lines_last draft.steps step;
      are_read = All-push IsReadBack draft.steps step draft.are_read (line_is_read step fit);
      none_refused =
          subst (λ (all : List Answer). All (λ a. is_refusal a ≡ false) all) (sym (answers_last o [] draft.steps step))
          (All-push (λ (a : Answer). is_refusal a ≡ false) (answers o [] (map step_of_move draft.steps)) (answer o t (step_of_move step)) draft.none_refused
          (subst (λ (a : Answer). is_refusal a ≡ false) same not_refused));
      leads = subst (λ (now : Trace). LeadsTo o now new.world) history (record { is_opening = draft.leads.is_opening; legal = keeps.legal; holds = keeps.holds });
    }

-- a draft stays as it is
pub stays : (draft : Draft) → DraftGoesOn draft draft
stays draft = λ o is. is

-- it continues twice
pub twice : (first second third : Draft) → DraftGoesOn first second → DraftGoesOn second third → DraftGoesOn first third
twice first second third one other = λ o is. other o (one o is)

-- no step
pub begins : (draft : Draft) (o : OpeningValue) → IsOpening o → Holds o [] draft.world → draft.text.items ≡ [] → IsDraftOf o draft
begins draft o opening holds empty =
    record {
      steps = [];
      says = empty;
      are_read = All-nil IsReadBack;
      none_refused = All-nil (λ (a : Answer). is_refusal a ≡ false);
      leads = record { is_opening = opening; legal = tt; holds = holds };
    }
