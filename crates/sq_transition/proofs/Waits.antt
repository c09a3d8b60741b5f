-- A submitted transaction that waits keeps what holds.
use Rattle.std.proofs.Common.{ℕ, List, [], ◌∷◌, ◌++◌, refl, sym, ap, ◌∙◌, arith, length, eq-eqb}
use Rattle.std.specs.Prelude.{◌<◌, if◌then◌else◌, nat_le, unwrap_or}
use Rattle.std.proofs.lemmas.Bool.{ne_eqb}
use Rattle.sq_schema.specs.TxnValue.{TxnValue}
use Rattle.sq_moves.specs.declared.opening.TheConstants.{MAX_WAITING}
use Rattle.sq_moves.specs.ReconValue.{leaf_at}
use Rattle.sq_moves.specs.OpeningValue.{OpeningValue}
use Rattle.sq_exec.specs.CoreValue.{CoreValue}
use Rattle.sq_model.specs.declared.step.Step.TheVariants.{Submit}
use Rattle.sq_model.specs.declared.answer.Answer.TheVariants.{Waits}
use Rattle.sq_model.specs.declared.answer.Refusal.TheVariants.{WaitFull}
use Rattle.sq_model.specs.Trace.{Trace}
use Rattle.sq_model.specs.Waiting.{waiting}
use Rattle.sq_model.specs.Answers.{waits_at, wait_answer}
use Rattle.sq_transition.specs.WorldValue.{WorldValue, core_at, with_core}
use Rattle.sq_transition.specs.LeaderResults.{StepResult, refuse}
use Rattle.sq_transition.proofs.Changed.{PartsHold}
use Rattle.sq_transition.proofs.Keeps.{Keeps, keeps_if, keeps_refused}
use Rattle.sq_transition.proofs.Cores.{core_set, core_kept, link_stays}
use Rattle.sq_transition.proofs.Links.{same_ends, links_same}

-- a partition at which one more transaction waits
abbrev pub waits_core : CoreValue → TxnValue → CoreValue
waits_core core txn = record core { waiting = core.waiting ++ txn ∷ [] }

-- a world in which one more transaction waits at a partition
waiting_holds : (o : OpeningValue) (t : Trace) (w : WorldValue) (part : ℕ) (txn : TxnValue) (seg leaf : ℕ) → PartsHold o t w → part < o.old.parts
    → PartsHold o ((Submit part txn, Waits txn.id seg leaf) ∷ t) (with_core w part (waits_core (core_at w part) txn))
waiting_holds o t w part txn seg leaf h there =
    let after = (Submit part txn, Waits txn.id seg leaf) ∷ t in
    let core = waits_core (core_at w part) txn in
    let was = h.partitions.each part there in
    let within : part < length w.cores = omega (arith, h.partitions.count, there) in
    record {
      plans = h.plans;
      leader = h.leader;
      partitions = core_set o t after w part core h.partitions there
          (assumption (was, ap (λ ws. ws ++ txn ∷ []) was.waiting ∙ sym (ap (λ b. if b then waiting o t part ++ txn ∷ [] else waiting o t part) (eq-eqb part part refl))))
          (λ p apart _ c. core_kept o t after p (core_at w p) c (assumption (ap (λ b. if b then waiting o t p ++ txn ∷ [] else waiting o t p) (ne_eqb part p apart))));
      segments = h.segments;
      links = links_same o t after w (with_core w part core) h.links (same_ends w (with_core w part core) refl)
          (λ j _. link_stays w part core j within (λ _. refl) (λ _. refl))
          (λ src dst. assumption)
          (λ j _ i chunk _ c. c);
    }

-- the result of a transaction that has to wait
abbrev pub wait_result : WorldValue → ℕ → TxnValue → StepResult
wait_result w part txn =
    if nat_le MAX_WAITING (length (core_at w part).waiting) then refuse w WaitFull
    else (waits_at w.recon txn, with_core w part (waits_core (core_at w part) txn))

pub wait_keeps : (o : OpeningValue) (t : Trace) (w : WorldValue) (part : ℕ) (txn : TxnValue) → PartsHold o t w → part < o.old.parts
    → Keeps o t (Submit part txn) (wait_result w part txn) (wait_answer o t part txn)
wait_keeps o t w part txn h there =
    let at = unwrap_or (leaf_at w.recon txn.root) (0, 0) in
    keeps_if o t (Submit part txn) _ _ _ _ _ _ (ap (λ (ws : List TxnValue). nat_le MAX_WAITING (length ws)) (h.partitions.each part there).waiting)
    (λ _. keeps_refused o t w (Submit part txn) WaitFull h)
    (λ _. (ap (λ recon. waits_at recon txn) h.plans.recon, waiting_holds o t w part txn at.0 at.1 h there))
