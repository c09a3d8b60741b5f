-- The one job that a receipt's transaction may be of.
use Rattle.std.proofs.Common.{◌≡◌, ℕ, Bool, false, List, slice_get, Contains, Some, None, sym, ap, ◌∙◌, subst}
use Rattle.std.specs.Bool.{Decides}
use Rattle.std.proofs.lemmas.Bool.Decides.{Decides-like}
use Rattle.sq_gather.specs.Prelude.{TxnValue, ReceiptValue}
use Rattle.sq_gather.proofs.Prelude.{Contains-slice_get, slice_get-Contains}
use Rattle.sq_audit.specs.declared.job.Job.{Job}
use Rattle.sq_audit.specs.Answers.{IdsDiffer, IsPosted}
use Rattle.sq_audit.specs.Index.{IsIndexOf}
use Rattle.sq_audit.specs.Told.{id_of}
use Rattle.sq_audit.proofs.Each.{decides_not, some_same, no_some}

module _ (jobs : List Job) (differ : IdsDiffer jobs) (places : List (ℕ × ℕ)) (index : IsIndexOf id_of jobs places) (receipt : ReceiptValue) where
  -- a job with the receipt's transaction is at the place that is listed with its id
  at_place : (place : ℕ) → Contains places (receipt.txn.id, place) → (job : Job) → Contains jobs job → job.txn ≡ receipt.txn → slice_get jobs place ≡ Some job
  at_place place listed job has is =
      let found = index.found receipt.txn.id place listed in
      let there = slice_get-Contains jobs job has in
      let same : place ≡ has.0 = differ place has.0 found.one job found.there there (found.key_is ∙ sym (ap (λ (t : TxnValue). t.id) is)) in
      ap (slice_get jobs) same ∙ there

  pub posted_at : (place : ℕ) → Contains places (receipt.txn.id, place) → (job : Job) (b : Bool) → slice_get jobs place ≡ Some job → Decides b (job.txn ≡ receipt.txn) → Decides b (IsPosted jobs receipt)
  posted_at place listed job b there decides =
      Decides-like b
      (λ same. (job, Contains-slice_get jobs place job there, same))
      (λ (posted : IsPosted jobs receipt).
      let is = some_same (sym there ∙ at_place place listed posted.0 posted.1 posted.2) in
      ap (λ (j : Job). j.txn) is ∙ posted.2)
      decides

  pub none_listed : ((place : ℕ) → Contains places (receipt.txn.id, place) → ⊥) → Decides false (IsPosted jobs receipt)
  none_listed none =
      decides_not (λ posted.
      let at = index.each posted.0 posted.1 in
      none at.0 (subst (λ k. Contains places (k, at.0)) (ap (λ (t : TxnValue). t.id) posted.2) at.1))

  pub none_at : (place : ℕ) → Contains places (receipt.txn.id, place) → slice_get jobs place ≡ None → Decides false (IsPosted jobs receipt)
  none_at place listed none = decides_not (λ posted. no_some posted.0 (sym none ∙ at_place place listed posted.0 posted.1 posted.2))
