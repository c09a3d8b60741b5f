-- What a chunk takes of runs.
use Rattle.std.proofs.Common.{⊎_elim, ◌⊎◌, inl, inr, ◌≡◌, ℕ, zero, suc, true, List, [], ◌∷◌, refl, sym, ap, ◌∙◌, subst, arith}
use Rattle.std.specs.Prelude.{◌+◌, ◌<◌, ◌≤◌, nat_le, max, cond, find, Option, Some, None, All, IsTrue}
use Rattle.std.specs.Borrow.{Bor}
use Rattle.std.specs.Option.{option_copied}
use Rattle.std.proofs.lemmas.Bool.{le-leb, lt-leb, cases_lt}
use Rattle.sq_schema.specs.declared.root.TheConstants.{ROOT_END}
use Rattle.sq_schema.specs.Family.{FamilyValue}
use Rattle.sq_store.specs.InOrder.{are_within, family_from}
use Rattle.sq_store.specs.Listed.{roots_rise}
use Rattle.sq_store.specs.Counting.{family_size, fitting, chunk_count}
use Rattle.sq_store.proofs.Lists.{families_in-store_of}
use Rattle.sq_store.proofs.Rising.{rises}
use Rattle.sq_store.proofs.Firsts.{not_between_low, not_between_high, between_from}
use Rattle.sq_store.specs.Run.{Run}
use Rattle.sq_store.specs.Runs.{families_in_runs, store_of_runs, between, first_bound, AreRuns}
use Rattle.sq_store.proofs.Within.{within_rise, filter_above}
use Rattle.sq_store.proofs.InRuns.{runs_rise, runs_within}
use Rattle.sq_store.proofs.Fits.{chunk_fits}

-- the families of each run rise
pub each_rises : (hi : ℕ) (runs : List Run) → AreRuns hi runs → All (λ (run : Run). IsTrue (roots_rise run.families)) runs
each_rises hi [] are k d inside = absurd (omega arith)
each_rises hi (run ∷ runs) are zero d inside = within_rise run.lo (first_bound hi runs) run.families are.1
each_rises hi (run ∷ runs) are (suc k) d inside = each_rises hi runs are.2 k d (omega arith)

-- families start with this one, if there are any
abbrev pub StartsWith : Option FamilyValue → List FamilyValue → Type 0
StartsWith None families = families ≡ []
StartsWith (Some family) families = (families ≡ []) ⊎ ((rest : List FamilyValue) × (families ≡ family ∷ rest))

-- those between two numbers start with the first from the lower one on
pub starts_with : (lo hi low high : ℕ) (families : List FamilyValue) → are_within low high families ≡ true → StartsWith (find (λ family. nat_le lo family.root) families) (between lo hi families)
starts_with lo hi low high [] within = refl
starts_with lo hi low high (family ∷ families) within =
    let r = rises low high family families within in
    ⊎_elim
    (λ (less : family.root < lo).
    subst (λ b. StartsWith (cond b (Some family) (find (λ f. nat_le lo f.root) families)) (between lo hi (family ∷ families))) (sym (lt-leb lo family.root less))
    (subst (λ b. StartsWith (find (λ f. nat_le lo f.root) families) (cond b (family ∷ between lo hi families) (between lo hi families))) (sym (not_between_low lo hi family.root less))
    (starts_with lo hi (family.root + 1) high families r.rest)))
    (λ (from : lo ≤ family.root).
    subst (λ b. StartsWith (cond b (Some family) (find (λ f. nat_le lo f.root) families)) (between lo hi (family ∷ families))) (sym (le-leb lo family.root from)) (here r.rest from))
    (cases_lt family.root lo)
  where
    here : are_within (family.root + 1) high families ≡ true → lo ≤ family.root → StartsWith (Some family) (between lo hi (family ∷ families))
    here rest from =
        ⊎_elim
        (λ (below : family.root < hi). inr (between lo hi families, ap (λ b. cond b (family ∷ between lo hi families) (between lo hi families)) (between_from lo hi family.root from below)))
        (λ (above : hi ≤ family.root). inl (ap (λ b. cond b (family ∷ between lo hi families) (between lo hi families)) (not_between_high lo hi family.root above) ∙ filter_above (family.root + 1) high families rest lo hi (omega (arith, above))))
        (cases_lt family.root hi)

-- the families of runs between two numbers start with what a search from the lower one finds
pub runs_start : (runs : List Run) (lo hi : ℕ) (found : Option (Bor FamilyValue)) → AreRuns ROOT_END runs → option_copied found ≡ family_from (store_of_runs runs) lo → StartsWith (option_copied found) (between lo hi (families_in_runs runs))
runs_start runs lo hi found are is =
    subst (λ f. StartsWith f (between lo hi (families_in_runs runs))) (sym (is ∙ ap (find (λ (family : FamilyValue). nat_le lo family.root)) (families_in-store_of (families_in_runs runs) (runs_rise ROOT_END runs are))))
    (starts_with lo hi (first_bound ROOT_END runs) ROOT_END (families_in_runs runs) (runs_within ROOT_END runs are))

-- with room for the first at least, a chunk is what fits
pub chunk_is : (limit : ℕ) (family : FamilyValue) (families : List FamilyValue) → StartsWith (Some family) families → fitting (max limit (family_size family)) families ≡ chunk_count limit families
chunk_is limit family families (inl none) = (λ i. fitting (max limit (family_size family)) (none i)) ∙ ap (chunk_count limit) (sym none)
chunk_is limit family families (inr (rest, is)) = ap (fitting (max limit (family_size family))) is ∙ sym (chunk_fits limit family rest) ∙ ap (chunk_count limit) (sym is)
