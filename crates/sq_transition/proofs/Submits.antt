-- Submit keeps what holds.
use Rattle.std.proofs.Common.{subst, ◌≡◌, ℕ, Bool, true, false, ◌∷◌, refl, sym, ap, ◌∙◌, true≢false}
use Rattle.std.specs.Prelude.{◌<◌, ◌==◌, ◌&&◌, ◌||◌, if◌then◌else◌, nat_le, length, Option, Some, None, unwrap_or}
use Rattle.std.specs.List.{list_any}
use Rattle.std.proofs.lemmas.List.{set-get_or}
use Rattle.std.proofs.lemmas.Bool.{leb-false, eqb-true}
use Rattle.sq_schema.specs.TxnValue.{TxnValue}
use Rattle.sq_schema.specs.declared.txn.Reply.{Reply}
use Rattle.sq_schema.specs.declared.txn.Reply.TheVariants.{Committed, Aborted}
use Rattle.sq_store.specs.StoreValue.{StoreValue, store_reply, store_after}
use Rattle.sq_moves.specs.declared.opening.TheConstants.{MAX_WAITING}
use Rattle.sq_moves.specs.OpeningValue.{OpeningValue}
use Rattle.sq_exec.specs.declared.fault.SubmitFault.{SubmitFault}
use Rattle.sq_exec.specs.declared.fault.SubmitFault.TheVariants as submit
use Rattle.sq_exec.specs.declared.outcome.Outcome.{Outcome}
use Rattle.sq_exec.specs.declared.outcome.Outcome.TheVariants as outcome
use Rattle.sq_exec.specs.Location.{location, route}
use Rattle.sq_exec.specs.Serving.{is_log_full, is_stuck, must_wait, submit_refusal}
use Rattle.sq_model.specs.declared.step.Step.TheVariants.{Submit}
use Rattle.sq_model.specs.declared.answer.Answer.TheVariants.{Moved, Replied}
use Rattle.sq_model.specs.declared.answer.Refusal.TheVariants.{NoSuchPartition, WaitFull, LogFull}
use Rattle.sq_model.specs.Trace.{Trace, unfolded}
use Rattle.sq_model.specs.Place.{destination, runner}
use Rattle.sq_model.specs.Waiting.{has_to_wait}
use Rattle.sq_model.specs.Answers.{answer, wait_answer, run_answer, routed}
use Rattle.sq_transition.specs.WorldValue.{WorldValue, no_core, core_at, with_core}
use Rattle.sq_transition.specs.LeaderResults.{StepResult, refuse}
use Rattle.sq_transition.specs.SubmitResults.{sent_to, submitted, submit_refused, taken}
use Rattle.sq_transition.specs.Transition.{step_result}
use Rattle.sq_transition.proofs.Changed.{PartsHold}
use Rattle.sq_transition.proofs.Keeps.{Keeps, keeps_if, keeps_refused}
use Rattle.sq_transition.proofs.Locations.{location_holds, comes_same, runs_at, runs_same, sent_same}
use Rattle.sq_transition.proofs.Waits.{wait_result, wait_keeps}
use Rattle.sq_transition.proofs.Runs.{RunningFacts, committed_with, SaysRan, ran_core, ran_holds, reply_same, full_same}

-- the partition that runs is the one
pub runner_found : (part : ℕ) (who : Option ℕ) → runs_at part who ≡ true → who ≡ Some part
runner_found part None is = absurd (true≢false (sym is))
runner_found part (Some who) is = ap Some (eqb-true who part is)

-- a world in which a partition was set to what it is
core_same : (w : WorldValue) (part : ℕ) → with_core w part (core_at w part) ≡ w
core_same w part = λ i. record w { cores = set-get_or w.cores part no_core i }

-- the answer of the model, by whether the partition runs the root key
routed_is : (o : OpeningValue) (t : Trace) (part : ℕ) (txn : TxnValue) (who : Option ℕ) → (if runs_at part who then run_answer o t txn else Moved txn.id (unwrap_or who (destination o txn.root))) ≡ routed o t part txn who
routed_is o t part txn None = refl
routed_is o t part txn (Some who) = refl

-- the result of a transaction that runs here
abbrev ran_result : WorldValue → ℕ → TxnValue → StepResult
ran_result w part txn =
    let core = core_at w part in
    if is_log_full core.log_limit core.store txn.root then refuse w LogFull
    else (Replied txn.id (store_reply core.store txn), with_core w part (ran_core core txn (store_reply core.store txn) core.waiting))

-- and of one that another partition runs
abbrev moved_result : WorldValue → ℕ → TxnValue → StepResult
moved_result w part txn = (Moved txn.id (sent_to w txn.root (route (core_at w part) txn.root)), with_core w part (core_at w part))

-- the result of it, as its outcome at the partition
abbrev served_result : WorldValue → ℕ → TxnValue → Bool → StepResult
served_result w part txn here =
    let core = core_at w part in
    let reply = store_reply core.store txn in
    let served : Outcome × StoreValue = if here then (outcome.Done reply, store_after core.store txn reply) else (outcome.Moved (route core txn.root), core.store) in
    (submitted w txn served.0, with_core w part (record core { store = served.1 }))

served_cases : (w : WorldValue) (part : ℕ) (txn : TxnValue) (here : Bool)
    → (if here && is_log_full (core_at w part).log_limit (core_at w part).store txn.root then refuse w LogFull else served_result w part txn here) ≡ (if here then ran_result w part txn else moved_result w part txn)
served_cases w part txn true = refl
served_cases w part txn false = refl

-- the result of a refusal, or of none
abbrev after_refusal : WorldValue → StepResult → Option SubmitFault → StepResult
after_refusal w went None = went
after_refusal w went (Some fault) = refuse w (submit_refused fault)

refusal_cases : (w : WorldValue) (must full stuck : Bool) (waited served : StepResult)
    → after_refusal w (if must then waited else served) (if must then if full then Some submit.WaitFull else None else if stuck then Some submit.LogFull else None)
    ≡ (if must then if full then refuse w WaitFull else waited else if stuck then refuse w LogFull else served)
refusal_cases w true true stuck waited served = refl
refusal_cases w true false stuck waited served = refl
refusal_cases w false full true waited served = refl
refusal_cases w false full false waited served = refl

taken_after : (w : WorldValue) (part : ℕ) (txn : TxnValue) (refusal : Option SubmitFault) → taken w part txn refusal ≡ after_refusal w (taken w part txn None) refusal
taken_after w part txn None = refl
taken_after w part txn (Some fault) = refl

-- the result of a submitted transaction, case by case
taken_cases : (w : WorldValue) (part : ℕ) (txn : TxnValue)
    → taken w part txn (submit_refusal (core_at w part) txn)
    ≡ (if must_wait (core_at w part) txn.root then wait_result w part txn
    else if route (core_at w part) txn.root == (core_at w part).part then ran_result w part txn else moved_result w part txn)
taken_cases w part txn =
    let core = core_at w part in
    let here = route core txn.root == core.part in
    taken_after w part txn (submit_refusal core txn)
    ∙ refusal_cases w (must_wait core txn.root) (nat_le MAX_WAITING (length core.waiting)) (is_stuck core txn.root) _ (served_result w part txn here)
    ∙ ap (λ result. if must_wait core txn.root then wait_result w part txn else result) (served_cases w part txn here)

-- the history after a transaction ran that was submitted
submit_ran : (o : OpeningValue) (t : Trace) (part : ℕ) (txn : TxnValue) (given : Reply) → SaysRan o t ((Submit part txn, Replied txn.id given) ∷ t) part txn given
submit_ran o t part txn given = assumption (of given)
  where
    of : (given : Reply) (p : ℕ) → unfolded ((Submit part txn, Replied txn.id given) ∷ t) p ≡ committed_with given txn (unfolded t p)
    of (Committed answers) p = refl
    of (Aborted at cause) p = refl

run_keeps : (o : OpeningValue) (t : Trace) (w : WorldValue) (part : ℕ) (txn : TxnValue) → RunningFacts o t → PartsHold o t w → part < o.old.parts → runner o t txn.root ≡ Some part
    → Keeps o t (Submit part txn) (ran_result w part txn) (run_answer o t txn)
run_keeps o t w part txn facts h there runs =
    let placed = facts.placed txn.root part runs in
    keeps_if o t (Submit part txn) _ _ _ _ _ _ (full_same o t w part txn h there placed)
    (λ _. keeps_refused o t w (Submit part txn) LogFull h)
    (λ _.
    let given = store_reply (core_at w part).store txn in (
      ap (Replied txn.id) (reply_same o t w part txn h there placed),
      ran_holds o t ((Submit part txn, Replied txn.id given) ∷ t) w part txn given (core_at w part).waiting (submit_ran o t part txn given) h there placed (facts.away txn.root part runs) (h.partitions.each part there).waiting,
    ))

moved_keeps : (o : OpeningValue) (t : Trace) (w : WorldValue) (part : ℕ) (txn : TxnValue) (who : ℕ) → PartsHold o t w → sent_to w txn.root (route (core_at w part) txn.root) ≡ who
    → Keeps o t (Submit part txn) (moved_result w part txn) (Moved txn.id who)
moved_keeps o t w part txn who h e = (ap (Moved txn.id) e, subst (PartsHold o t) (sym (core_same w part)) h)

pub submit_keeps : (o : OpeningValue) (t : Trace) (w : WorldValue) (part : ℕ) (txn : TxnValue) → RunningFacts o t → PartsHold o t w
    → Keeps o t (Submit part txn) (step_result w (Submit part txn)) (answer o t (Submit part txn))
submit_keeps o t w part txn facts h =
    keeps_if o t (Submit part txn) _ _ _ _ _ _ (ap (λ plan. nat_le plan.parts part) h.plans.old)
    (λ _. keeps_refused o t w (Submit part txn) NoSuchPartition h)
    (λ below.
    let there = leb-false o.old.parts part below in
    let core = core_at w part in
    let is = h.partitions.each part there in
    let at = location core txn.root in
    let s = location_holds o t part txn.root core facts.routing is in
    subst (λ result. Keeps o t (Submit part txn) result (if has_to_wait o t part txn.root then wait_answer o t part txn else routed o t part txn (runner o t txn.root))) (sym (taken_cases w part txn))
    (keeps_if o t (Submit part txn) _ _ _ _ _ _
    (λ i. list_any (λ x. x.root == txn.root) (is.waiting i) || comes_same o t part txn.root core at is s i)
    (λ _. wait_keeps o t w part txn h there)
    (λ _. subst (Keeps o t (Submit part txn) (if route core txn.root == core.part then ran_result w part txn else moved_result w part txn)) (routed_is o t part txn (runner o t txn.root))
    (keeps_if o t (Submit part txn) _ _ _ _ _ _
    (runs_same o t part txn.root core at facts.routing is s)
    (λ runs. run_keeps o t w part txn facts h there (runner_found part (runner o t txn.root) runs))
    (λ _. moved_keeps o t w part txn _ h (sent_same o t w part txn.root core at facts.routing h is s))))))
