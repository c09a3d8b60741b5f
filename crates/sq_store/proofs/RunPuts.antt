-- Runs that families are put into.
use Rattle.std.proofs.Common.{subst, ◌≡◌, ℕ, List, [], ◌∷◌, ◌++◌, length, get_or, set, take, drop, refl, sym, ap, ◌∙◌, arith, append_assoc, append-nil, length-append}
use Rattle.std.specs.Prelude.{◌+◌}
use Rattle.std.proofs.lemmas.List.{nil_from_length}
use Rattle.sq_schema.specs.Family.{FamilyValue}
use Rattle.sq_store.specs.Run.{Run}
use Rattle.sq_store.specs.InOrder.{are_within}
use Rattle.sq_store.specs.Runs.{families_in_runs, AreRuns}
use Rattle.sq_store.proofs.Within.{within_append, within_cons}
use Rattle.sq_store.proofs.InRuns.{run_at, read_at, families_append, runs_front, runs_back, runs_append}
use Rattle.sq_store.proofs.SetRuns.{set_run}

-- a family behind all, in a run of its own
pub behind_alone : (runs : List Run) (run : Run) (family : FamilyValue) → AreRuns family.root runs → run.lo ≡ family.root → run.families ≡ family ∷ [] → AreRuns (family.root + 1) (runs ++ run ∷ [])
behind_alone runs run family are same items =
    runs_append (family.root + 1) runs (run ∷ []) (subst (λ n. AreRuns n runs) (sym same) are)
    (omega (arith, same), (λ i. are_within (same i) (family.root + 1) (items i)) ∙ within_cons family.root (family.root + 1) family [] (omega arith) (omega arith) refl, tt)

-- the last of runs
pub record IsEnd (runs : List Run) (at : ℕ) : Type 0 where
  pub front : List Run
  pub run : Run
  pub whole : runs ≡ front ++ run ∷ []
  pub count : length front ≡ at

pub last_run : (runs : List Run) (at : ℕ) → at + 1 ≡ length runs → IsEnd runs at
last_run runs at last =
    let here = run_at runs at (omega (arith, last)) in
    let none : here.back ≡ [] = nil_from_length here.back (omega (arith, ap length here.whole, length-append here.front (here.run ∷ here.back), here.count, last)) in
    record { front = here.front; run = here.run; whole = here.whole ∙ ap (λ back. here.front ++ here.run ∷ back) none; count = here.count }

-- a family behind all, in the last run
module _ (front : List Run) (run other : Run) (family : FamilyValue) (same : other.lo ≡ run.lo) (items : other.families ≡ run.families ++ family ∷ []) where
  pub behind_last : AreRuns family.root (front ++ run ∷ []) → AreRuns (family.root + 1) (front ++ other ∷ [])
  behind_last are =
      let last = runs_back family.root front (run ∷ []) are in
      runs_append (family.root + 1) front (other ∷ []) (subst (λ n. AreRuns n front) (sym same) (runs_front family.root front (run ∷ []) are)) (
        omega (arith, same, last.0),
        (λ i. are_within (same i) (family.root + 1) (items i))
            ∙ within_append run.lo family.root (family.root + 1) run.families (family ∷ []) last.0 (omega arith) last.1 (within_cons family.root (family.root + 1) family [] (omega arith) (omega arith) refl),
        tt,
      )

  pub behind_last_families : families_in_runs (front ++ other ∷ []) ≡ families_in_runs (front ++ run ∷ []) ++ family ∷ []
  behind_last_families =
      families_append front (other ∷ [])
      ∙ ap (λ fs. families_in_runs front ++ fs) (append-nil other.families ∙ items)
      ∙ sym (append_assoc (families_in_runs front) run.families (family ∷ []))
      ∙ ap (λ fs. fs ++ family ∷ []) (ap (λ fs. families_in_runs front ++ fs) (sym (append-nil run.families)) ∙ sym (families_append front (run ∷ [])))

-- a family behind all, in the last of runs
module _ (runs : List Run) (at : ℕ) (old other : Run) (family : FamilyValue) (last : at + 1 ≡ length runs) (read : old ≡ get_or runs at old) (same : other.lo ≡ old.lo) (items : other.families ≡ old.families ++ family ∷ []) where
  end : IsEnd runs at
  end = last_run runs at last

  own : old ≡ end.run
  own = read ∙ read_at runs end.front [] end.run at old end.whole end.count

  set_is : set runs at other ≡ end.front ++ other ∷ []
  set_is = set_run runs end.front [] end.run other at end.whole end.count

  pub put_last_runs : AreRuns family.root runs → AreRuns (family.root + 1) (set runs at other)
  put_last_runs are =
      subst (AreRuns (family.root + 1)) (sym set_is)
      (behind_last end.front end.run other family (same ∙ ap (λ (run : Run). run.lo) own) (items ∙ ap (λ (run : Run). run.families ++ family ∷ []) own) (subst (AreRuns family.root) end.whole are))

  pub put_last_families : families_in_runs (set runs at other) ≡ families_in_runs runs ++ family ∷ []
  put_last_families =
      ap families_in_runs set_is
      ∙ behind_last_families end.front end.run other family (same ∙ ap (λ (run : Run). run.lo) own) (items ∙ ap (λ (run : Run). run.families ++ family ∷ []) own)
      ∙ ap (λ rs. families_in_runs rs ++ family ∷ []) (sym end.whole)

-- a run put in behind all
pub put_at_end : (runs : List Run) (run : Run) → take (length runs) runs ++ run ∷ drop (length runs) runs ≡ runs ++ run ∷ []
put_at_end [] run = refl
put_at_end (first ∷ runs) run = ap (λ (rs : List Run). first ∷ rs) (put_at_end runs run)
