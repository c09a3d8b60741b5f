-- Resume keeps what holds.
use Rattle.std.proofs.Common.{subst, inl, inr, ◌≡◌, ◌≢◌, ℕ, Bool, true, false, List, [], ◌∷◌, refl, sym, ap, ◌∙◌, arith, eq-eqb}
use Rattle.std.specs.Prelude.{slice_get, ◌+◌, ◌<◌, ◌==◌, ◌&&◌, if◌then◌else◌, not, nat_lt, nat_le, length, position, find, remove, slice_index_or, Option, Some, None, is_none, unwrap_or, Contains}
use Rattle.std.specs.Option.{option_map_or}
use Rattle.std.specs.List.{list_all, prefix_len}
use Rattle.std.proofs.lemmas.Bool.{leb-false, cases_Bool, and_parts, not-true, ne_eqb}
use Rattle.std.proofs.lemmas.List.Folds.{find_at, list_all_at}
use Rattle.std.proofs.lemmas.List.Quantifiers.{position-Some}
use Rattle.std.proofs.lemmas.List.Sums.{position_or_len_is}
use Rattle.std.proofs.lemmas.Option.{slice_get-get_or}
use Rattle.sq_schema.specs.TxnValue.{TxnValue}
use Rattle.sq_schema.specs.declared.txn.Reply.{Reply}
use Rattle.sq_schema.specs.declared.txn.Reply.TheVariants.{Committed, Aborted}
use Rattle.sq_store.specs.StoreValue.{store_reply}
use Rattle.sq_moves.specs.OpeningValue.{OpeningValue}
use Rattle.sq_moves.proofs.Found.{none_passes}
use Rattle.sq_exec.specs.declared.fault.ResumeFault.{ResumeFault}
use Rattle.sq_exec.specs.declared.fault.ResumeFault.TheVariants as resume
use Rattle.sq_exec.specs.CoreValue.{CoreValue}
use Rattle.sq_exec.specs.Location.{location, is_coming_here, route}
use Rattle.sq_exec.specs.Serving.{is_stuck, is_ready_here, resume_refusal}
use Rattle.sq_model.specs.declared.step.Step.TheVariants.{Resume}
use Rattle.sq_model.specs.declared.answer.Answer.TheVariants.{Resumed, Refused}
use Rattle.sq_model.specs.declared.answer.Refusal.TheVariants.{NoSuchPartition, NoneReady, LogFull}
use Rattle.sq_model.specs.Trace.{Trace, unfolded}
use Rattle.sq_model.specs.Tables.{is_full}
use Rattle.sq_model.specs.Place.{is_coming, runner}
use Rattle.sq_model.specs.Waiting.{waiting, is_ready, without_ready, are_coming, first_ready}
use Rattle.sq_model.specs.Answers.{answer, resumed as resumed_answer}
use Rattle.sq_model.proofs.Lists.{Contains-first, Contains-later, Contains-slice_get, list_any-Contains, nothing_found}
use Rattle.sq_transition.specs.WorldValue.{WorldValue, core_at}
use Rattle.sq_transition.specs.LeaderResults.{StepResult, refuse}
use Rattle.sq_transition.specs.SubmitResults.{resume_refused, no_txn, resumed_at}
use Rattle.sq_transition.specs.Transition.{step_result}
use Rattle.sq_transition.proofs.Changed.{PartsHold}
use Rattle.sq_transition.proofs.Keeps.{Keeps, keeps_if, keeps_refused}
use Rattle.sq_transition.proofs.Locations.{location_holds, comes_same, runs_at, runs_same}
use Rattle.sq_transition.proofs.Runs.{RunningFacts, committed_with, SaysRan, ran_holds, reply_same, full_same}

-- tests that agree on what a list contains
module _ {X : Type 0} where
  prefix_same : (p q : X → Bool) (xs : List X) → ((x : X) → Contains xs x → p x ≡ q x) → prefix_len p xs ≡ prefix_len q xs
  prefix_same p q [] same = refl
  prefix_same p q (x ∷ xs) same = λ i. if same x (Contains-first x xs) i then 1 + prefix_same p q xs (λ y has. same y (Contains-later x xs y has)) i else 0

  position_same : (p q : X → Bool) (xs : List X) → ((x : X) → Contains xs x → p x ≡ q x) → position p xs ≡ position q xs
  position_same p q xs same =
      let first = prefix_same (λ x. not (p x)) (λ x. not (q x)) xs (λ x has. ap not (same x has)) in
      λ i. if nat_lt (first i) (length xs) then Some (first i) else None

  -- what is found is what is at the first place
  found_at : (p : X → Bool) (xs : List X) (i : ℕ) (none : X) → position p xs ≡ Some i → find p xs ≡ Some (slice_index_or xs i none)
  found_at p xs i none e =
      let at = position-Some p xs i none e in
      find_at p xs ∙ ap (slice_get xs) (position_or_len_is p xs i none (omega (arith, at.0)) at.2 (λ _. at.1)) ∙ slice_get-get_or xs i none at.0

  -- and where there is none, nothing is found
  found_nowhere : (p : X → Bool) (xs : List X) → position p xs ≡ None → find p xs ≡ None
  found_nowhere p xs none = nothing_found p xs (none_passes p xs none)

-- the history after a waiting transaction ran
resume_ran : (o : OpeningValue) (t : Trace) (part : ℕ) (txn : TxnValue) (given : Reply) → SaysRan o t ((Resume part, Resumed txn given) ∷ t) part txn given
resume_ran o t part txn given = assumption (of given, others_wait)
  where
    of : (given : Reply) (p : ℕ) → unfolded ((Resume part, Resumed txn given) ∷ t) p ≡ committed_with given txn (unfolded t p)
    of (Committed answers) p = refl
    of (Aborted at cause) p = refl

    others_wait : (p : ℕ) → part ≢ p → waiting o ((Resume part, Resumed txn given) ∷ t) p ≡ waiting o t p
    others_wait p apart = ap (λ b. if b then without_ready o t p (waiting o t p) else waiting o t p) (ne_eqb part p apart)

-- what is answered where none is ready
none_ready : (w : WorldValue) (coming : Bool) → refuse w (resume_refused (unwrap_or (if coming then Some resume.NoneReady else Some resume.LogFull) resume.NoneReady)) ≡ (if coming then refuse w NoneReady else refuse w LogFull)
none_ready w true = refl
none_ready w false = refl

module _ (o : OpeningValue) (t : Trace) (w : WorldValue) (part : ℕ) (facts : RunningFacts o t) (h : PartsHold o t w) (there : part < o.old.parts) where
  abbrev core : CoreValue
  core = core_at w part

  waits_are : core.waiting ≡ waiting o t part
  waits_are = (h.partitions.each part there).waiting

  -- whether the rows of a root key are on their way
  coming_same : (root : ℕ) → is_coming_here core root ≡ is_coming o t part root
  coming_same root = comes_same o t part root core (location core root) (h.partitions.each part there) (location_holds o t part root core facts.routing (h.partitions.each part there))

  all_coming : list_all (λ txn. is_coming_here core txn.root) core.waiting ≡ are_coming o t part
  all_coming = λ i. list_all (λ txn. coming_same txn.root i) (waits_are i)

  -- the partition runs what waits at it, once its rows came
  runs_it : (txn : TxnValue) → Contains core.waiting txn → is_coming o t part txn.root ≡ false → runner o t txn.root ≡ Some part
  runs_it txn has gone =
      facts.resumes part txn.root
      (list_any-Contains (λ other. other.root == txn.root) (waiting o t part) txn (subst (λ txns. Contains txns txn) waits_are has) (eq-eqb txn.root txn.root refl))
      gone

  takes_itself : (root : ℕ) → runner o t root ≡ Some part → (route core root == core.part) ≡ true
  takes_itself root runs =
      let is = h.partitions.each part there in
      runs_same o t part root core (location core root) facts.routing is (location_holds o t part root core facts.routing is) ∙ ap (runs_at part) runs ∙ eq-eqb part part refl

  ready_same : (txn : TxnValue) → Contains core.waiting txn → is_ready_here core txn ≡ is_ready o t part txn
  ready_same txn has =
      elim (cases_Bool (is_coming o t part txn.root)) [
        | inl coming ↦
            ap (λ b. not b && not (is_stuck core txn.root)) (coming_same txn.root ∙ coming)
            ∙ sym (ap (λ b. not b && not (is_full o t txn.root)) coming)
        | inr gone ↦
            let runs = runs_it txn has gone in
            let full = full_same o t w part txn h there (facts.placed txn.root part runs) in
            λ i. not (coming_same txn.root i) && not (takes_itself txn.root runs i && full i)
      ]

  -- so the first that is ready is the same
  first_same : position (is_ready_here core) core.waiting ≡ position (is_ready o t part) (waiting o t part)
  first_same = position_same (is_ready_here core) (is_ready o t part) core.waiting ready_same ∙ ap (position (is_ready o t part)) waits_are

  none_keeps : position (is_ready_here core) core.waiting ≡ None → Keeps o t (Resume part) (resumed_at w part None) (if are_coming o t part then Refused NoneReady else resumed_answer o t (first_ready o t part))
  none_keeps none =
      let nothing : first_ready o t part ≡ None = found_nowhere (is_ready o t part) (waiting o t part) (sym first_same ∙ none) in
      let refusal : resume_refusal core ≡ (if are_coming o t part then Some resume.NoneReady else Some resume.LogFull) =
      λ i. if all_coming i then Some resume.NoneReady else if is_none (none i) then Some resume.LogFull else None in
      subst (λ (result : StepResult). Keeps o t (Resume part) result (if are_coming o t part then Refused NoneReady else resumed_answer o t (first_ready o t part)))
      (sym (ap (λ (r : Option ResumeFault). refuse w (resume_refused (unwrap_or r resume.NoneReady))) refusal ∙ none_ready w (are_coming o t part)))
      (keeps_if o t (Resume part) _ _ _ _ _ _ refl
      (λ _. keeps_refused o t w (Resume part) NoneReady h)
      (λ _. subst (Keeps o t (Resume part) (refuse w LogFull)) (sym (ap (resumed_answer o t) nothing)) (keeps_refused o t w (Resume part) LogFull h)))

  some_keeps : (place : ℕ) → position (is_ready_here core) core.waiting ≡ Some place
      → Keeps o t (Resume part) (resumed_at w part (Some place)) (if are_coming o t part then Refused NoneReady else resumed_answer o t (first_ready o t part))
  some_keeps place first =
      let txn = slice_index_or core.waiting place no_txn in
      let at = position-Some (is_ready_here core) core.waiting place no_txn first in
      let has = Contains-slice_get core.waiting place txn (slice_get-get_or core.waiting place no_txn at.0) in
      let here : is_coming_here core txn.root ≡ false = not-true (is_coming_here core txn.root) (and_parts (not (is_coming_here core txn.root)) (not (is_stuck core txn.root)) at.1).0 in
      let some : are_coming o t part ≡ false = sym all_coming ∙ list_all_at (λ txn. is_coming_here core txn.root) core.waiting place no_txn at.0 here in
      let found : first_ready o t part ≡ Some txn =
      found_at (is_ready o t part) (waiting o t part) place no_txn (sym first_same ∙ first) ∙ ap (λ txns. Some (slice_index_or txns place no_txn)) (sym waits_are) in
      let runs = runs_it txn has (sym (coming_same txn.root) ∙ here) in
      let placed = facts.placed txn.root part runs in
      let given = store_reply core.store txn in
      let after = (Resume part, Resumed txn given) ∷ t in
      let left : remove core.waiting place ≡ waiting o after part =
      ap (λ txns. remove txns place) waits_are
      ∙ sym (ap (λ b. if b then without_ready o t part (waiting o t part) else waiting o t part) (eq-eqb part part refl)
      ∙ ap (λ at. option_map_or (remove (waiting o t part)) at (waiting o t part)) (sym first_same ∙ first)) in
      subst (Keeps o t (Resume part) (resumed_at w part (Some place)))
      (sym (λ i. if some i then Refused NoneReady else resumed_answer o t (found i))) (
        ap (Resumed txn) (reply_same o t w part txn h there placed),
        ran_holds o t after w part txn given (remove core.waiting place) (resume_ran o t part txn given) h there placed (facts.away txn.root part runs) left,
      )

  at_first : (found : Option ℕ) → position (is_ready_here core) core.waiting ≡ found → Keeps o t (Resume part) (resumed_at w part found) (if are_coming o t part then Refused NoneReady else resumed_answer o t (first_ready o t part))
  at_first None e = none_keeps e
  at_first (Some place) e = some_keeps place e

pub resume_keeps : (o : OpeningValue) (t : Trace) (w : WorldValue) (part : ℕ) → RunningFacts o t → PartsHold o t w → Keeps o t (Resume part) (step_result w (Resume part)) (answer o t (Resume part))
resume_keeps o t w part facts h =
    keeps_if o t (Resume part) _ _ _ _ _ _ (ap (λ plan. nat_le plan.parts part) h.plans.old)
    (λ _. keeps_refused o t w (Resume part) NoSuchPartition h)
    (λ below. at_first o t w part facts h (leb-false o.old.parts part below) (position (is_ready_here (core_at w part)) (core_at w part).waiting) refl)
