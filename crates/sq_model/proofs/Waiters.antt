-- On a legal trace a transaction waits only at the partition that its root key moves to, once the move was started, and that partition runs it once its rows came.
use Rattle.std.proofs.Common.{◌≡◌, ⊎_elim, inl, inr, ℕ, ◌<◌, ◌≤◌, Bool, true, false, ◌==◌, ◌&&◌, not, List, [], ◌∷◌, ◌++◌, remove, is_some, Option, Some, None, ap₂, arith, refl, sym, ap, ◌∙◌, subst, true≢false}
use Rattle.std.specs.Option.{option_map_or}
use Rattle.std.specs.List.{list_any}
use Rattle.std.proofs.lemmas.Bool.{and_parts, and_from, or_cases, cond_both, cond-true, cases_lt, eq-eqb, eqb-true, true_from_ne_false}
use Rattle.std.proofs.lemmas.List.Folds.{list_any-append}
use Rattle.sq_schema.specs.TxnValue.{TxnValue}
use Rattle.sq_moves.specs.OpeningValue.{OpeningValue}
use Rattle.sq_model.specs.declared.step.Step.{Step}
use Rattle.sq_model.specs.declared.step.Step.TheVariants.{Prepare, Start, Submit, Resume, Next, Finish}
use Rattle.sq_model.specs.declared.answer.Answer.{Answer}
use Rattle.sq_model.specs.declared.answer.Answer.TheVariants.{Done, Waits, Resumed}
use Rattle.sq_model.specs.Trace.{Trace, stage, enters, loads}
use Rattle.sq_model.specs.Leader.{is_started}
use Rattle.sq_model.specs.Place.{source, destination, moves, moves_in, is_covered, runner, is_coming}
use Rattle.sq_model.specs.Waiting.{without_ready, waiting, has_to_wait}
use Rattle.sq_model.specs.Legal.{IsLegal}
use Rattle.sq_moves.specs.ReconValue.{segment_of, stage_on}
use Rattle.sq_moves.specs.Opening.{IsOpening}
use Rattle.sq_model.proofs.Keys.{found_in_segment, moves_found}
use Rattle.sq_model.proofs.Ended.{past_loaded}
use Rattle.sq_model.proofs.Lists.{list_any-remove}
use Rattle.sq_model.proofs.Steps.{prepare_goes, wait_goes}

-- one of these transactions is on the root key
abbrev pub is_on : ℕ → List TxnValue → Bool
is_on root txns = list_any (λ txn. txn.root == root) txns

-- the stage in which a root key moves
abbrev pub stage_for : OpeningValue → ℕ → ℕ
stage_for o root = stage_on o.recon (source o root) (destination o root)

-- the move was started, and the root key moves to this partition, in the running stage or in one that went
pub record WaitsFor (o : OpeningValue) (t : Trace) (part root : ℕ) : Type 0 where
  pub exists : part < o.old.parts
  pub started : is_started t ≡ true
  pub moving : moves o root ≡ true
  pub to : destination o root ≡ part
  pub by : stage_for o root ≤ stage t

-- a move that was started stays so
stays_started : (o : OpeningValue) (t : Trace) (step : Step) (given : Answer) → IsLegal o ((step, given) ∷ t) → is_started t ≡ true → is_started ((step, given) ∷ t) ≡ true
stays_started o t (Prepare part) Done legal started = absurd (true≢false (sym started ∙ prepare_goes o t part legal.0))
stays_started o t Start Done legal started = refl
stays_started o t Finish Done legal started = refl
stays_started o t step given legal started = started

-- and no stage comes again
stage_rises : (step : Step) (given : Answer) (i : ℕ) → i ≤ enters step given i
stage_rises Next Done i = omega arith
stage_rises step given i = omega arith

still : (o : OpeningValue) (t : Trace) (step : Step) (given : Answer) → IsLegal o ((step, given) ∷ t) → (part root : ℕ) → WaitsFor o t part root → WaitsFor o ((step, given) ∷ t) part root
still o t step given legal part root waits = record {
  exists = waits.exists;
  started = stays_started o t step given legal waits.started;
  moving = waits.moving;
  to = waits.to;
  by = let rises = stage_rises step given (stage t) in let by = waits.by in omega arith;
}

-- what has to be waited for, where this is so of all that transactions wait for
has_to-waits : (o : OpeningValue) (t : Trace) (part root : ℕ) → part < o.old.parts → (is_on root (waiting o t part) ≡ true → WaitsFor o t part root) → has_to_wait o t part root ≡ true → WaitsFor o t part root
has_to-waits o t part root exists waits has_to =
    ⊎_elim waits
    (λ (coming : is_coming o t part root ≡ true).
    let a = and_parts (is_started t) _ coming in
    let b = and_parts (moves_in o (stage t) root) _ a.1 in
    let c = and_parts (destination o root == part) _ b.1 in
    let d = and_parts (moves o root) (stage_for o root == stage t) b.0 in
    let now = eqb-true (stage_for o root) (stage t) d.1 in
    record { exists = exists; started = a.0; moving = d.0; to = eqb-true (destination o root) part c.0; by = omega (arith, now) })
    (or_cases (is_on root (waiting o t part)) (is_coming o t part root) has_to)

-- the one new transaction is on the root key
on_one : (root : ℕ) (txn : TxnValue) → is_on root (txn ∷ []) ≡ true → txn.root ≡ root
on_one root txn is =
    eqb-true txn.root root (⊎_elim (λ (here : (txn.root == root) ≡ true). here) (λ (none : false ≡ true). absurd (true≢false (sym none))) (or_cases (txn.root == root) false is))

-- what those wait for that are left, waited before
on_rest : (root : ℕ) (txns : List TxnValue) (place : Option ℕ) → is_on root (option_map_or (remove txns) place txns) ≡ true → is_on root txns ≡ true
on_rest root txns None on = on
on_rest root txns (Some i) on = list_any-remove (λ (txn : TxnValue). txn.root == root) txns i on

pub waits_for : (o : OpeningValue) (t : Trace) → IsLegal o t → (part root : ℕ) → is_on root (waiting o t part) ≡ true → WaitsFor o t part root
waits_for o [] legal part root on = absurd (true≢false (sym on))
waits_for o ((Submit at txn, Waits id seg leaf) ∷ t) legal part root on =
    still o t (Submit at txn) (Waits id seg leaf) legal part root
    (cond_both (at == part) (waiting o t part ++ txn ∷ []) (waiting o t part) (λ (txns : List TxnValue). is_on root txns ≡ true → WaitsFor o t part root)
    (λ here more.
    ⊎_elim
    (λ (before : is_on root (waiting o t part) ≡ true). waits_for o t legal.1 part root before)
    (λ (new : is_on root (txn ∷ []) ≡ true).
    let goes = wait_goes o t at txn id seg leaf legal.0 in
    subst (λ p. WaitsFor o t p root) (eqb-true at part here)
    (subst (WaitsFor o t at) (on_one root txn new) (has_to-waits o t at txn.root goes.exists (waits_for o t legal.1 at txn.root) goes.has_to)))
    (or_cases (is_on root (waiting o t part)) (is_on root (txn ∷ [])) (sym (list_any-append (λ (other : TxnValue). other.root == root) (waiting o t part) (txn ∷ [])) ∙ more)))
    (λ _ before. waits_for o t legal.1 part root before)
    on)
waits_for o ((Resume at, Resumed txn reply) ∷ t) legal part root on =
    still o t (Resume at) (Resumed txn reply) legal part root
    (waits_for o t legal.1 part root
    (cond_both (at == part) (without_ready o t part (waiting o t part)) (waiting o t part) (λ (txns : List TxnValue). is_on root txns ≡ true → is_on root (waiting o t part) ≡ true)
    (λ _ rest. on_rest root (waiting o t part) _ rest)
    (λ _ before. before)
    on))
waits_for o ((step, given) ∷ t) legal part root on = still o t step given legal part root (waits_for o t legal.1 part root on)

-- a root key that moved in a stage that went was loaded
pub went-loaded : (o : OpeningValue) → IsOpening o → (t : Trace) → IsLegal o t → (root : ℕ) → moves o root ≡ true → stage_for o root < stage t → is_covered (loads t) root ≡ true
went-loaded o is t legal root moving past = among (segment_of o.recon.segments root) refl
  where
    among : (found : Option ℕ) → segment_of o.recon.segments root ≡ found → is_covered (loads t) root ≡ true
    among None none = absurd (true≢false (sym moving ∙ moves_found o is root ∙ ap is_some none))
    among (Some g) found =
        let at = found_in_segment o is root g found in
        let same = ap₂ (stage_on o.recon) at.1.source_is at.1.destination_is in
        past_loaded o is t legal root g at.0 found at.1 (omega (arith, same, past))

-- where its rows aren't on their way any more, they were loaded
pub waits-loaded : (o : OpeningValue) → IsOpening o → (t : Trace) → IsLegal o t → (part root : ℕ) → WaitsFor o t part root → is_coming o t part root ≡ false → is_covered (loads t) root ≡ true
waits-loaded o is t legal part root waits gone =
    elim (cases_lt (stage_for o root) (stage t)) [
      | inl past ↦ went-loaded o is t legal root waits.moving past
      | inr now ↦
          let by = waits.by in
          let here = and_from (moves o root) (stage_for o root == stage t) waits.moving (eq-eqb (stage_for o root) (stage t) (omega (arith, now, by))) in
          true_from_ne_false (is_covered (loads t) root) (λ left.
          true≢false (
          sym (and_from (is_started t) (moves_in o (stage t) root && ((destination o root == part) && not (is_covered (loads t) root))) waits.started
          (and_from (moves_in o (stage t) root) ((destination o root == part) && not (is_covered (loads t) root)) here
          (and_from (destination o root == part) (not (is_covered (loads t) root)) (eq-eqb (destination o root) part waits.to) (ap not left))))
          ∙ gone))
    ]

-- so the partition runs it
pub waits-runner : (o : OpeningValue) → IsOpening o → (t : Trace) → IsLegal o t → (part root : ℕ) → WaitsFor o t part root → is_coming o t part root ≡ false → runner o t root ≡ Some part
waits-runner o is t legal part root waits gone =
    cond-true (is_covered (loads t) root) (Some (destination o root)) _ (waits-loaded o is t legal part root waits gone) ∙ ap Some waits.to
