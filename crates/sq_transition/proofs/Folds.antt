-- Fold keeps what holds.
use Rattle.std.proofs.Common.{⊎_elim, ◌≡◌, ℕ, Bool, true, false, [], ◌∷◌, refl, sym, ap, ◌∙◌, arith, length, eq-eqb}
use Rattle.std.specs.Prelude.{◌<◌, ◌≢◌, ◌==◌, ◌&&◌, ◌||◌, if◌then◌else◌, not, nat_le, Some, None, slice_get}
use Rattle.std.specs.FinMap.{get}
use Rattle.std.proofs.lemmas.Bool.{ne_eqb, cases_eq, leb-false}
use Rattle.sq_schema.specs.Effect.{RowList, only}
use Rattle.sq_schema.specs.Family.{FamilyValue, rows_of, family_stands}
use Rattle.sq_store.specs.ChunkValue.{ChunkValue, covers}
use Rattle.sq_store.specs.StoreValue.{fold_of, folded_store}
use Rattle.sq_store.proofs.Folds.{get-folded}
use Rattle.sq_moves.specs.OpeningValue.{OpeningValue}
use Rattle.sq_exec.specs.CoreValue.{CoreValue, folded_core}
use Rattle.sq_model.specs.declared.step.Step.TheVariants.{Fold}
use Rattle.sq_model.specs.declared.step.Phase.{Phase}
use Rattle.sq_model.specs.declared.step.Phase.TheVariants.{Ended}
use Rattle.sq_model.specs.declared.answer.Answer.TheVariants.{Done}
use Rattle.sq_model.specs.declared.answer.Refusal.TheVariants.{NotFinished, NoSuchPartition}
use Rattle.sq_model.specs.Trace.{Trace, unfolded}
use Rattle.sq_model.specs.Leader.{phase, is_ended_phase}
use Rattle.sq_model.specs.Tables.{now, base_of, stands, family_of}
use Rattle.sq_model.specs.Place.{At, place, destination}
use Rattle.sq_model.specs.Answers.{answer}
use Rattle.sq_model.proofs.Tables.{rows_now}
use Rattle.sq_transition.specs.WorldValue.{WorldValue, WholeLink, core_at, with_core, link_value, under_way}
use Rattle.sq_transition.specs.Transition.{step_result}
use Rattle.sq_transition.specs.Holds.{LinkHolds, ChunkHolds, CoreHolds, share, share_at, is_at}
use Rattle.sq_transition.proofs.Changed.{PartsHold}
use Rattle.sq_transition.proofs.Cores.{core_set, link_stays, set_kept}
use Rattle.sq_transition.proofs.Keeps.{Keeps, keeps_if, keeps_refused}
use Rattle.sq_transition.proofs.Links.{same_ends, links_same}
use Rattle.sq_transition.proofs.Parts.{share_none, absent_is}
use Rattle.sq_transition.proofs.Runs.{IsAway}

-- what a fold rests on: once the reconfiguration has ended each root key is where the new plan has it, and no chunk under way covers a root key that is at a partition
pub record FoldFacts (o : OpeningValue) (t : Trace) : Type 0 where
  pub placed : phase t ≡ Ended → (root : ℕ) → place o t root ≡ At (destination o root)
  pub away : (root part : ℕ) → place o t root ≡ At part → (l : WholeLink) → LinkHolds o t l → (i : ℕ) (chunk : ChunkValue) → slice_get (under_way l) i ≡ Some chunk → IsAway o t root chunk

-- the history with one more fold
abbrev pub folded_more : Trace → ℕ → Trace
folded_more t part = (Fold part, Done) ∷ t

-- a family that starts from these rows with an empty log, which stands where there are some
abbrev anew : ℕ → RowList → FamilyValue
anew root rows = record { root = root; base = rows; log = [] }

starts_from : (root : ℕ) (rows : RowList) → (if (not (length rows == 0) || false) && true then Some (anew root rows) else None) ≡ (if length rows == 0 then None else Some (anew root rows))
starts_from root rows = here (length rows == 0) (anew root rows)
  where
    here : (none : Bool) (f : FamilyValue) → (if (not none || false) && true then Some f else None) ≡ (if none then None else Some f)
    here true f = refl
    here false f = refl

module _ (o : OpeningValue) (t : Trace) (part : ℕ) where
  -- the family of a root key after the fold, by whether it is folded
  abbrev family_if : ℕ → Bool → FamilyValue
  family_if root b = record { root = root; base = if b then now o t root else base_of o t root; log = only root (if b then [] else unfolded t (destination o root)) }

  -- a share of other root keys stays
  share_apart : (here : ℕ → Bool) (root : ℕ) → destination o root ≢ part → share o (folded_more t part) here root ≡ share o t here root
  share_apart here root apart =
      let e = ne_eqb (destination o root) part apart in
      λ i. if family_stands (family_if root (e i)) && here root then Some (family_if root (e i)) else None

  -- the families that are there start anew
  fold_of_share : (root : ℕ) (b : Bool) → stands o t root ≡ b → fold_of (if b && true then Some (family_of o t root) else None) ≡ (if length (now o t root) == 0 then None else Some (anew root (now o t root)))
  fold_of_share root true e = ap (λ (rows : RowList). if length rows == 0 then None else Some (anew root rows)) (rows_now o t root)
  fold_of_share root false e =
      let none : [] ≡ now o t root = ap rows_of (absent_is o t root e) ∙ rows_now o t root in
      ap (λ (rows : RowList). if length rows == 0 then None else Some (anew root rows)) none

  share_folded : (root : ℕ) → destination o root ≡ part → place o t root ≡ At (destination o root) → share_at o (folded_more t part) part root ≡ fold_of (share_at o t part root)
  share_folded root same placed =
      let e = eq-eqb (destination o root) part same in
      let at : is_at part (place o t root) ≡ true = ap (is_at part) placed ∙ e in
      (λ i. if family_stands (family_if root (e i)) && at i then Some (family_if root (e i)) else None)
      ∙ starts_from root (now o t root)
      ∙ sym (fold_of_share root (stands o t root) refl)
      ∙ sym (ap (λ b. fold_of (if stands o t root && b then Some (family_of o t root) else None)) at)

  elsewhere : (p root : ℕ) → place o t root ≡ At (destination o root) → destination o root ≢ p → is_at p (place o t root) ≡ false
  elsewhere p root placed apart = ap (is_at p) placed ∙ ne_eqb (destination o root) p apart

  module _ (placed : (root : ℕ) → place o t root ≡ At (destination o root)) where
    store_folded : (core : CoreValue) → CoreHolds o t part core → (root : ℕ) → get (folded_store core.store) root ≡ share_at o (folded_more t part) part root
    store_folded core h root =
        get-folded core.store root
        ∙ ap fold_of (h.store root)
        ∙ ⊎_elim
        (λ (same : destination o root ≡ part). sym (share_folded root same (placed root)))
        (λ (apart : destination o root ≢ part).
        let off = elsewhere part root (placed root) apart in
        ap fold_of (share_none o t (λ key. is_at part (place o t key)) root off) ∙ sym (share_none o (folded_more t part) (λ key. is_at part (place o t key)) root off))
        (cases_eq (destination o root) part)

    others_stay : (p root : ℕ) → part ≢ p → share_at o t p root ≡ share_at o (folded_more t part) p root
    others_stay p root other =
        ⊎_elim
        (λ (same : destination o root ≡ part).
        let off = elsewhere p root (placed root) (λ e. other (sym same ∙ e)) in
        share_none o t (λ key. is_at p (place o t key)) root off ∙ sym (share_none o (folded_more t part) (λ key. is_at p (place o t key)) root off))
        (λ (apart : destination o root ≢ part). sym (share_apart (λ key. is_at p (place o t key)) root apart))
        (cases_eq (destination o root) part)

    -- a chunk that covers no root key that is at a partition has none
    chunk_stays : (chunk : ChunkValue) → ((root : ℕ) → IsAway o t root chunk) → ChunkHolds o t chunk → ChunkHolds o (folded_more t part) chunk
    chunk_stays chunk away h = record {
      families = λ root. h.families root ∙ share_none o t (covers chunk.note) root (away root) ∙ sym (share_none o (folded_more t part) (covers chunk.note) root (away root));
      rising = h.rising;
    }

-- the world after a fold
fold_holds : (o : OpeningValue) (t : Trace) (w : WorldValue) (part : ℕ) → FoldFacts o t → phase t ≡ Ended → PartsHold o t w → part < o.old.parts → PartsHold o (folded_more t part) (with_core w part (folded_core (core_at w part)))
fold_holds o t w part facts ended h there =
    let core = folded_core (core_at w part) in
    let was = h.partitions.each part there in
    let placed = facts.placed ended in
    let within : part < length w.cores = omega (arith, h.partitions.count, there) in
    record {
      plans = h.plans;
      leader = h.leader;
      partitions = core_set o t (folded_more t part) w part core h.partitions there
          (assumption (was, set_kept o t (folded_more t part) part core was.set refl refl, store_folded o t part placed (core_at w part) was))
          (λ p apart _ c. assumption (c, λ (root : ℕ). c.store root ∙ others_stay o t part placed p root apart));
      segments = h.segments;
      links = links_same o t (folded_more t part) w (with_core w part core) h.links (same_ends w (with_core w part core) refl)
          (λ j _. link_stays w part core j within (λ _. refl) (λ _. refl))
          (λ src dst. assumption)
          (λ j below i chunk at. chunk_stays o t part placed chunk (λ root. facts.away root (destination o root) (placed root) (link_value w j) (h.links.each j below) i chunk at));
    }

ended_phase : (p : Phase) → is_ended_phase p ≡ true → p ≡ Ended
ended_phase Ended e = refl
ended_phase p e = absurd cc

pub fold_keeps : (o : OpeningValue) (t : Trace) (w : WorldValue) (part : ℕ) → FoldFacts o t → PartsHold o t w → Keeps o t (Fold part) (step_result w (Fold part)) (answer o t (Fold part))
fold_keeps o t w part facts h =
    keeps_if o t (Fold part) _ _ _ _ _ _ (ap (λ plan. nat_le plan.parts part) h.plans.old)
    (λ _. keeps_refused o t w (Fold part) NoSuchPartition h)
    (λ below.
    keeps_if o t (Fold part) _ _ _ _ _ _ (ap is_ended_phase h.leader.phase)
    (λ ended. (refl, fold_holds o t w part facts (ended_phase (phase t) ended) h (leb-false o.old.parts part below)))
    (λ _. keeps_refused o t w (Fold part) NotFinished h))
