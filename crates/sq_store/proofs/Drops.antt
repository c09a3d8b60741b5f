-- Runs without families that are dropped.
use Rattle.std.proofs.Common.{◌≡◌, ℕ, zero, suc, Bool, true, false, MutBor, List, [], ◌∷◌, length, refl, sym, ap, ◌∙◌, subst}
use Rattle.std.specs.Prelude.{◌==◌, ◌+◌, not, cond, filter, slice_index_or, IsSome, Option, Some, None}
use Rattle.std.specs.Option.{option_map_or}
use Rattle.std.specs.Global.{Vec}
use Rattle.slab.specs.Slab.{Slab, get, RetainsFrom}
use Rattle.sq_schema.specs.Family.{FamilyValue}
use Rattle.sq_store.specs.declared.runs.RunEntry.{RunEntry}
use Rattle.sq_store.specs.Run.{has_families}
use Rattle.sq_store.specs.Indexed.{run_under, runs_of, HasNot, IsIndex}

-- families that are kept in a slab
module _ {F : Type 0} (step : F → ℕ → MutBor (Vec FamilyValue) → Bool → MutBor (Vec FamilyValue) → F → Type 0)
    (is : (f : F) (key : ℕ) (shown : MutBor (Vec FamilyValue)) (keep : Bool) (left : MutBor (Vec FamilyValue)) (next : F) → step f key shown keep left next → (keep ≡ not (length shown.now.items == 0)) × (left.now ≡ shown.now)) where
  pub retained : (f : F) (key : ℕ) (old now : List (Option (Vec FamilyValue))) (k : ℕ) (families : Vec FamilyValue) → RetainsFrom step f key old now → slice_index_or old k None ≡ Some families
      → not (length families.items == 0) ≡ true → slice_index_or now k None ≡ Some families
  retained f key [] now k families kept found some = absurd (cc)
  retained f key (None ∷ old) now zero families kept found some = absurd (cc)
  retained f key (None ∷ old) now (suc k) families (later, is_now, rest) found some =
      ap (λ slots. slice_index_or slots (suc k) None) is_now ∙ retained f (key + 1) old later k families rest found some
  retained f key (Some first ∷ old) now zero families (keep, new, next, called, later, is_now, rest) found some =
      let same : first ≡ families = cc in
      let own = is f key called.shown keep called.left next called.called in
      let kept : keep ≡ true = own.0 ∙ ap (λ (fs : Vec FamilyValue). not (length fs.items == 0)) (called.shows ∙ same) ∙ some in
      let left : new ≡ families = sym called.leaves ∙ own.1 ∙ called.shows ∙ same in
      ap (λ slots. slice_index_or slots 0 None) is_now ∙ (λ i. cond (kept i) (Some (left i)) None)
  retained f key (Some first ∷ old) now (suc k) families (keep, new, next, called, later, is_now, rest) found some =
      ap (λ slots. slice_index_or slots (suc k) None) is_now ∙ retained next (key + 1) old later k families rest found some

-- the entries of runs that have families
abbrev pub kept_entries : Slab (Vec FamilyValue) → List RunEntry → List RunEntry
kept_entries slab index = filter (λ entry. has_families (run_under slab entry)) index

module _ (old now : Slab (Vec FamilyValue)) (same : (key : ℕ) (families : Vec FamilyValue) → get old key ≡ Some families → not (length families.items == 0) ≡ true → get now key ≡ Some families) where
  -- lead to the same
  still : (key : ℕ) (found : Option (Vec FamilyValue)) → get old key ≡ found → not (length (option_map_or (λ (fs : Vec FamilyValue). fs.items) found []) == 0) ≡ true → get now key ≡ found
  still key None found some = absurd (cc)
  still key (Some families) found some = same key families found some

  still_get : (entry : RunEntry) → has_families (run_under old entry) ≡ true → get now entry.key ≡ get old entry.key
  still_get entry some = still entry.key (get old entry.key) refl some

  still_run : (entry : RunEntry) → has_families (run_under old entry) ≡ true → run_under now entry ≡ run_under old entry
  still_run entry some = ap (λ o. record { lo = entry.lo; families = option_map_or (λ (fs : Vec FamilyValue). fs.items) o [] }) (still_get entry some)

  pub kept_runs : (index : List RunEntry) → runs_of now (kept_entries old index) ≡ filter has_families (runs_of old index)
  kept_runs [] = refl
  kept_runs (entry ∷ index) = by_test (has_families (run_under old entry)) refl (kept_runs index)
    where
      by_test : (b : Bool) → has_families (run_under old entry) ≡ b → runs_of now (kept_entries old index) ≡ filter has_families (runs_of old index)
          → runs_of now (cond b (entry ∷ kept_entries old index) (kept_entries old index)) ≡ cond b (run_under old entry ∷ filter has_families (runs_of old index)) (filter has_families (runs_of old index))
      by_test true some rest = (λ i. still_run entry some i ∷ rest i)
      by_test false none rest = rest

  has_not_kept : (key : ℕ) (index : List RunEntry) → HasNot key index → HasNot key (kept_entries old index)
  has_not_kept key [] none = tt
  has_not_kept key (entry ∷ index) none = by_test (has_families (run_under old entry)) (has_not_kept key index none.1)
    where
      by_test : (b : Bool) → HasNot key (kept_entries old index) → HasNot key (cond b (entry ∷ kept_entries old index) (kept_entries old index))
      by_test true rest = (none.0, rest)
      by_test false rest = rest

  pub kept_index : (index : List RunEntry) → IsIndex old index → IsIndex now (kept_entries old index)
  kept_index [] is = tt
  kept_index (entry ∷ index) is = by_test (has_families (run_under old entry)) refl (kept_index index is.2)
    where
      by_test : (b : Bool) → has_families (run_under old entry) ≡ b → IsIndex now (kept_entries old index) → IsIndex now (cond b (entry ∷ kept_entries old index) (kept_entries old index))
      by_test true some rest = (subst IsSome (sym (still_get entry some)) is.0, has_not_kept entry.key index is.1, rest)
      by_test false none rest = rest
