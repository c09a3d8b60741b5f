-- Jobs with their ids, and one more whose id is new.
use Rattle.std.proofs.Common.{◌≡◌, ⊎_elim, ◌⊎◌, inl, inr, ℕ, zero, suc, ◌<◌, ◌≤◌, ◌==◌, ◌||◌, Bool, true, false, List, [], ◌∷◌, ◌++◌, length, slice_get, Some, refl, sym, ap, ◌∙◌, arith, true≢false, eq-eqb}
use Rattle.std.specs.Ordering.{nat_cmp}
use Rattle.std.specs.BTreeSet.{BTreeSet, contains, Updates}
use Rattle.std.specs.Cmp.{unsigned_tied}
use Rattle.std.proofs.lemmas.Bool.{cases_eq, ne_eqb, or_right}
use Rattle.std.proofs.lemmas.List.{length-append}
use Rattle.std.proofs.lemmas.List.Folds.{list_any-append}
use Rattle.sq_model.proofs.Lists.{Contains-slice_get, list_any-Contains}
use Rattle.sq_audit.specs.declared.job.Job.{Job}
use Rattle.sq_audit.specs.Answers.{IdsDiffer}
use Rattle.sq_live.specs.declared.job_list.TheConstants.{MAX_JOBS}
use Rattle.sq_live.specs.Jobs.{has_id, HasIds}

-- what is in a list behind which one more was put
last_or : {X : Type 0} (xs : List X) (x y : X) (i : ℕ) → slice_get (xs ++ x ∷ []) i ≡ Some y → (slice_get xs i ≡ Some y) ⊎ ((i ≡ length xs) × (y ≡ x))
last_or [] x y zero at = inr (refl, cc)
last_or [] x y (suc i) at = absurd cc
last_or (z ∷ zs) x y zero at = inl at
last_or (z ∷ zs) x y (suc i) at = ⊎_elim (λ before. inl before) (λ last. inr (ap suc last.0, last.1)) (last_or zs x y i at)

-- a job's id is one of the jobs'
pub its_id : (jobs : List Job) (job : Job) (i id : ℕ) → slice_get jobs i ≡ Some job → job.txn.id ≡ id → has_id id jobs ≡ true
its_id jobs job i id at is = list_any-Contains (λ (j : Job). j.txn.id == id) jobs job (Contains-slice_get jobs i job at) (eq-eqb job.txn.id id is)

-- one more job whose id is new
module _ (jobs : List Job) (job : Job) (fresh : has_id job.txn.id jobs ≡ false) (differ : IdsDiffer jobs) where
  unlike : (i : ℕ) (other : Job) → slice_get jobs i ≡ Some other → other.txn.id ≡ job.txn.id → ⊥
  unlike i other at same = true≢false (sym (its_id jobs other i job.txn.id at same) ∙ fresh)

  pub differ_then : IdsDiffer (jobs ++ job ∷ [])
  differ_then i j one other at also same =
      ⊎_elim
      (λ first.
      ⊎_elim
      (λ second. differ i j one other first second same)
      (λ second. absurd (unlike i one first (same ∙ ap (λ (x : Job). x.txn.id) second.1)))
      (last_or jobs job other j also))
      (λ first.
      ⊎_elim
      (λ second. absurd (unlike j other second (sym same ∙ ap (λ (x : Job). x.txn.id) first.1)))
      (λ second. first.0 ∙ sym second.0)
      (last_or jobs job other j also))
      (last_or jobs job one i at)

-- there is room for one more job
pub few_then : (jobs : List Job) (job : Job) → length jobs < MAX_JOBS → length (jobs ++ job ∷ []) ≤ MAX_JOBS
few_then jobs job below = let grown = length-append jobs (job ∷ []) in omega (arith, grown, below)

-- jobs that aren't as many as there may be are fewer
pub below_most : (jobs : List Job) → length jobs ≤ MAX_JOBS → (length jobs == MAX_JOBS) ≡ false → length jobs < MAX_JOBS
below_most jobs few room =
    ⊎_elim (λ full. absurd (true≢false (sym (eq-eqb (length jobs) MAX_JOBS full) ∙ room))) (λ apart. omega (arith, few, apart)) (cases_eq (length jobs) MAX_JOBS)

module _ (jobs : List Job) (old new : BTreeSet ℕ) (job : Job) (has : HasIds jobs old) (fresh : contains nat_cmp old job.txn.id ≡ false) where
  with_last : (id : ℕ) → has_id id (jobs ++ job ∷ []) ≡ (has_id id jobs || ((job.txn.id == id) || false))
  with_last id = list_any-append (λ (j : Job). j.txn.id == id) jobs (job ∷ [])

  module _ (updates : Updates nat_cmp old new job.txn.id true) where
    each : (id : ℕ) → contains nat_cmp new id ≡ has_id id (jobs ++ job ∷ [])
    each id =
        ⊎_elim
        (λ same.
        let here : (job.txn.id == id) ≡ true = eq-eqb job.txn.id id same in
        ap (contains nat_cmp new) (sym same) ∙ updates.1 ∙ sym (with_last id ∙ or_right (has_id id jobs) ((job.txn.id == id) || false) (rw here refl)))
        (λ apart.
        let away : (job.txn.id == id) ≡ false = ne_eqb job.txn.id id apart in
        updates.2 id (unsigned_tied job.txn.id id ∙ away) ∙ has.each id ∙ sym (with_last id ∙ rw away (or_none (has_id id jobs))))
        (cases_eq job.txn.id id)
      where
        or_none : (b : Bool) → (b || false) ≡ b
        or_none true = refl
        or_none false = refl

    -- the ids of the jobs and of the one more
    pub ids_then : (length jobs == MAX_JOBS) ≡ false → HasIds (jobs ++ job ∷ []) new
    ids_then room =
        record {
          differ = differ_then jobs job (sym (has.each job.txn.id) ∙ fresh) has.differ;
          each = each;
          few = few_then jobs job (below_most jobs has.few room);
        }
