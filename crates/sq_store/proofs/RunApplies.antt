-- What a transaction does to the families of a run.
use Rattle.std.proofs.Common.{⊎_elim, get_or, ◌≡◌, ℕ, zero, suc, true, List, [], ◌∷◌, length, set, take, drop, sym, ap, ◌∙◌, arith}
use Rattle.std.specs.Prelude.{◌<◌, ◌≤◌, All}
use Rattle.std.specs.List.{insert as put_in}
use Rattle.std.proofs.lemmas.List.Elements.{All-append, All-take, All-drop, All-set}
use Rattle.sq_schema.specs.Family.{FamilyValue}
use Rattle.std.specs.Prelude.{Some, None}
use Rattle.std.specs.FinMap.{get}
use Rattle.std.proofs.lemmas.Bool.{cases_lt}
use Rattle.std.proofs.lemmas.List.{get_or_default}
use Rattle.sq_store.proofs.Lists.{get_at}
use Rattle.sq_store.specs.InOrder.{are_within}
use Rattle.sq_store.specs.Listed.{roots_rise, store_of, IsStart, IsRootGap}
use Rattle.sq_store.proofs.Within.{within_each}
use Rattle.sq_store.proofs.Lifts.{within_from_rise}

module _ (lo hi : ℕ) (families : List FamilyValue) (within : are_within lo hi families ≡ true) where
  abbrev IsIn : FamilyValue → Type 0
  IsIn family = (lo ≤ family.root) × (family.root < hi)

  each : All (λ family. (lo ≤ family.root) × (family.root < hi)) families
  each k d inside = within_each lo hi families within k d inside

  pub within_set : (at : ℕ) (family : FamilyValue) → roots_rise (set families at family) ≡ true → lo ≤ family.root → family.root < hi → are_within lo hi (set families at family) ≡ true
  within_set at family rising low high = within_from_rise lo hi (set families at family) rising (All-set IsIn families at family (low, high) each)

  pub within_put : (at : ℕ) (family : FamilyValue) → roots_rise (put_in families at family) ≡ true → lo ≤ family.root → family.root < hi → are_within lo hi (put_in families at family) ≡ true
  within_put at family rising low high =
      within_from_rise lo hi (put_in families at family) rising
      (All-append IsIn (take at families) (family ∷ drop at families) (All-take IsIn at families each) (All-append IsIn (family ∷ []) (drop at families) (one family (low, high)) (All-drop IsIn at families each)))
    where
      one : (f : FamilyValue) → IsIn f → All IsIn (f ∷ [])
      one f is zero d inside = is
      one f is (suc k) d inside = absurd (omega arith)

-- where the families from an absent root key on start is the gap for it
pub start_gap : (families : List FamilyValue) (root at : ℕ) → roots_rise families ≡ true → IsStart families root at → get (store_of families) root ≡ None → IsRootGap families root at
start_gap families root at rising is none =
    record {
      within = is.within;
      below = is.below;
      above = λ k d from inside.
          ⊎_elim
          (λ (less : root < (get_or families k d).root). less)
          (λ (upto : (get_or families k d).root ≤ root). absurd (stands k d inside upto from))
          (cases_lt root (get_or families k d).root);
    }
  where
    stands : (k : ℕ) (d : FamilyValue) → k < length families → (get_or families k d).root ≤ root → at ≤ k → ⊥
    stands k d inside upto from =
        let here : (e : FamilyValue) → (get_or families k e).root ≡ root = λ e.
        let low = is.from k e from inside in
        let same = ap (λ (f : FamilyValue). f.root) (get_or_default families k e d inside) in
        omega (arith, low, same, upto) in
        let found = get_at families root k d rising (record { within = inside; here = here }) in
        let both : None ≡ Some (get_or families k d) = sym none ∙ found in
        cc
