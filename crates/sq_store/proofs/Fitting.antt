-- What fits of runs, one after another.
use Rattle.std.proofs.Common.{◌≡◌, ℕ, suc, List, [], ◌∷◌, ◌++◌, length, get_or, take, drop, refl, sym, ap, ◌∙◌, arith, append-nil, length-append}
use Rattle.std.specs.Prelude.{◌+◌, ◌<◌, ◌≤◌, ◌&&◌, nat_le, nat_lt, not, Some, None}
use Rattle.std.specs.Borrow.{Bor}
use Rattle.std.specs.Slice.{IsItemAt}
use Rattle.std.proofs.lemmas.Bool.{ltb-true, ltb-false}
use Rattle.std.proofs.lemmas.List.{take_more, take-append-drop}
use Rattle.std.proofs.lemmas.List.Elements.{filter-append}
use Rattle.std.proofs.lemmas.List.Filters.{length-filter_both}
use Rattle.sq_schema.specs.Family.{FamilyValue}
use Rattle.sq_store.specs.Counting.{fitting, root_after}
use Rattle.sq_store.proofs.Counts.{fitting_within}
use Rattle.sq_store.specs.Run.{Run}
use Rattle.sq_store.specs.Runs.{families_in_runs, between}
use Rattle.sq_store.proofs.AtRuns.{families_at, families_from, counted_upto}
use Rattle.sq_store.proofs.InRuns.{families_append}
use Rattle.sq_store.proofs.Fits.{fitting_part, root_within, root_behind}

pub between_append : (lo hi : ℕ) (front back : List FamilyValue) → between lo hi (front ++ back) ≡ between lo hi front ++ between lo hi back
between_append lo hi front back = filter-append (λ (family : FamilyValue). nat_le lo family.root && nat_lt family.root hi) front back

pub between_upto : (lo hi : ℕ) (families : List FamilyValue) → length (between lo hi families) ≤ length families
between_upto lo hi families =
    let both = length-filter_both (λ (family : FamilyValue). nat_le lo family.root && nat_lt family.root hi) (λ (family : FamilyValue). not (nat_le lo family.root && nat_lt family.root hi)) (λ family. refl) families in
    omega (arith, both)

-- the families of the run at a place, among those between two numbers
module _ (lo hi : ℕ) (runs : List Run) (k : ℕ) (run : Run) (inside : k < length runs) (is : run ≡ get_or runs k run) where
  abbrev own : List FamilyValue
  own = between lo hi run.families

  abbrev behind : List FamilyValue
  behind = between lo hi (families_in_runs (drop (k + 1) runs))

  next : suc k ≡ k + 1
  next = omega arith

  pub from_run : between lo hi (families_in_runs (drop k runs)) ≡ own ++ behind
  from_run =
      ap (between lo hi) (families_from runs k run inside ∙ (λ i. (sym is i).families ++ families_in_runs (drop (next i) runs)))
      ∙ between_append lo hi run.families (families_in_runs (drop (k + 1) runs))

  pub upto_run : between lo hi (families_in_runs (take (k + 1) runs)) ≡ between lo hi (families_in_runs (take k runs)) ++ own
  upto_run =
      ap (λ rs. between lo hi (families_in_runs rs)) (take_more runs k run inside ∙ ap (λ (r : Run). take k runs ++ r ∷ []) (sym is))
      ∙ ap (between lo hi) (families_append (take k runs) (run ∷ []) ∙ ap (λ fs. families_in_runs (take k runs) ++ fs) (append-nil run.families))
      ∙ between_append lo hi (families_in_runs (take k runs)) run.families

  pub around_run : between lo hi (families_in_runs runs) ≡ between lo hi (families_in_runs (take k runs)) ++ (own ++ behind)
  around_run =
      ap (between lo hi) (families_at runs k run inside ∙ (λ i. families_in_runs (take k runs) ++ ((sym is i).families ++ families_in_runs (drop (next i) runs))))
      ∙ between_append lo hi (families_in_runs (take k runs)) (run.families ++ families_in_runs (drop (k + 1) runs))
      ∙ ap (λ fs. between lo hi (families_in_runs (take k runs)) ++ fs) (between_append lo hi run.families (families_in_runs (drop (k + 1) runs)))

  module _ (room count left fits : ℕ)
      (whole : fitting room (between lo hi (families_in_runs runs)) ≡ count + fitting left (between lo hi (families_in_runs (drop k runs))))
      (counted : count ≡ length (between lo hi (families_in_runs (take k runs))))
      (fit : fits ≡ fitting left own) where
    -- no more fit than there are
    pub few_fit : count + fits ≤ length (families_in_runs runs)
    few_fit =
        omega (arith, counted, fit, fitting_within left own, between_upto lo hi run.families, between_upto lo hi (families_in_runs (take k runs)), counted_upto runs k run inside is)

    -- where not all of the run fit, these are all that fit, and the next one is that behind them
    pub some_fit : fits < length own → count + fits ≡ fitting room (between lo hi (families_in_runs runs))
    some_fit some =
        sym (whole ∙ ap (λ n. count + n) (ap (fitting left) from_run ∙ fitting_part left own behind (omega (arith, some, fit)) ∙ sym fit))

    pub ends_in_run : (d : FamilyValue) → fits < length own → (get_or own fits d).root ≡ root_after hi (between lo hi (families_in_runs runs)) (count + fits)
    ends_in_run d some =
        sym (ap (λ fs. root_after hi fs (count + fits)) around_run ∙ root_within hi (between lo hi (families_in_runs (take k runs))) own behind count fits d counted some)

    -- where all of it fit, the same holds of the runs behind it, with what is left of the room
    pub all_fit : (rest : ℕ) → ((more : List FamilyValue) → fits ≡ length own → fitting left (own ++ more) ≡ fits + fitting rest more) → length own ≤ fits
        → fitting room (between lo hi (families_in_runs runs)) ≡ count + fits + fitting rest behind
    all_fit rest left_is all =
        let on = ap (fitting left) from_run ∙ left_is behind (omega (arith, all, fit, fitting_within left own)) in
        omega (arith, whole, on)

    pub all_counted : length own ≤ fits → count + fits ≡ length (between lo hi (families_in_runs (take (k + 1) runs)))
    all_counted all =
        omega (arith, ap length upto_run, length-append (between lo hi (families_in_runs (take k runs))) own, counted, all, fit, fitting_within left own)

-- what a look-up by place found
pub found_at : (families : List FamilyValue) (at : ℕ) (family : Bor FamilyValue) → IsItemAt families at (Some family) → (at < length families) × (family.now ≡ get_or families at family.now)
found_at families at family is = (ltb-true at (length families) (sym is.0), is.1)

pub none_at : (families : List FamilyValue) (at : ℕ) → IsItemAt families at None → length families ≤ at
none_at families at is = ltb-false at (length families) (sym is.0)

-- families between two numbers before a place and from it on
pub between_parts : (lo hi : ℕ) (runs : List Run) (k : ℕ) → between lo hi (families_in_runs runs) ≡ between lo hi (families_in_runs (take k runs)) ++ between lo hi (families_in_runs (drop k runs))
between_parts lo hi runs k =
    ap (between lo hi) (ap families_in_runs (sym (take-append-drop k runs)) ∙ families_append (take k runs) (drop k runs))
    ∙ between_append lo hi (families_in_runs (take k runs)) (families_in_runs (drop k runs))

-- where there are none before a place
pub fit_from : (lo hi : ℕ) (runs : List Run) (k room : ℕ) → between lo hi (families_in_runs (take k runs)) ≡ [] → fitting room (between lo hi (families_in_runs runs)) ≡ 0 + fitting room (between lo hi (families_in_runs (drop k runs)))
fit_from lo hi runs k room none =
    let is = ap (fitting room) (between_parts lo hi runs k ∙ ap (λ fs. fs ++ between lo hi (families_in_runs (drop k runs))) none) in
    omega (arith, is)

-- where there are none from a place on
module _ (lo hi : ℕ) (runs : List Run) (k room count left : ℕ) (none : between lo hi (families_in_runs (drop k runs)) ≡ []) where
  pub fit_upto : fitting room (between lo hi (families_in_runs runs)) ≡ count + fitting left (between lo hi (families_in_runs (drop k runs))) → count ≡ fitting room (between lo hi (families_in_runs runs))
  fit_upto whole = omega (arith, whole, ap (fitting left) none)

  pub end_upto : count ≡ length (between lo hi (families_in_runs (take k runs))) → hi ≡ root_after hi (between lo hi (families_in_runs runs)) count
  end_upto counted =
      let all = between_parts lo hi runs k ∙ ap (λ fs. between lo hi (families_in_runs (take k runs)) ++ fs) none ∙ append-nil (between lo hi (families_in_runs (take k runs))) in
      sym (root_behind hi (between lo hi (families_in_runs runs)) count (counted ∙ sym (ap length all)))
