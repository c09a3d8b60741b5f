-- A chunk that is taken out of runs, the last of them first.
use Rattle.std.proofs.Common.{subst, ◌≡◌, ℕ, true, List, [], ◌∷◌, ◌++◌, length, take, drop, set, sym, ap, ◌∙◌, arith, append-nil, length-append}
use Rattle.std.specs.Prelude.{◌+◌, ◌<◌, ◌≤◌, ◌&&◌, nat_le, nat_lt, not, Result, Ok, Err, OnOk, OnErr}
use Rattle.std.proofs.lemmas.List.{nil_from_length, take-append-drop, take_at, drop_at, take-set-le}
use Rattle.sq_schema.specs.declared.root.TheConstants.{ROOT_END}
use Rattle.sq_schema.specs.Family.{FamilyValue}
use Rattle.sq_store.specs.InOrder.{are_within}
use Rattle.sq_store.specs.StoreValue.{families_between, without_between}
use Rattle.sq_store.specs.Listed.{roots_rise, store_of}
use Rattle.sq_store.specs.Run.{Run, empty_run}
use Rattle.sq_store.specs.Runs.{families_in_runs, store_of_runs, between, outside, first_bound, AreRuns, IsSpan, IsTakenTo, nth_run, refilled}
use Rattle.sq_store.proofs.Betweens.{between_is, outside_is, within_filter}
use Rattle.sq_store.proofs.InRuns.{IsAt, run_at, read_at, run_stands, run_replaced, runs_rise, families_append, families_around}
use Rattle.sq_store.proofs.Fitting.{between_append}
use Rattle.sq_store.proofs.MadeRuns.{back_at}
use Rattle.sq_store.proofs.Cutting.{each_rises}
use Rattle.sq_store.proofs.Swaps.{nth_of}
use Rattle.sq_store.proofs.SetRuns.{set_run}
use Rattle.sq_store.proofs.TakenRuns.{outside_append, all_outside}

module _ (runs : List Run) (lo hi at : ℕ) (are : AreRuns ROOT_END runs) (inside : at < length runs) (after : between lo hi (families_in_runs (drop (at + 1) runs)) ≡ []) where
  abbrev here : IsAt runs at
  here = run_at runs at inside

  abbrev own : List FamilyValue
  own = (nth_run runs at).families

  abbrev other : Run
  other = refilled runs at (outside lo hi own)

  read : nth_run runs at ≡ here.run
  read = read_at runs here.front here.back here.run at empty_run here.whole here.count

  front_is : take at runs ≡ here.front
  front_is = ap (take at) here.whole ∙ take_at here.front (here.run ∷ here.back) at here.count

  none_behind : between lo hi (families_in_runs here.back) ≡ []
  none_behind = ap (λ rs. between lo hi (families_in_runs rs)) (sym (back_at runs here.front here.back here.run at here.whole here.count)) ∙ after

  parts : families_in_runs runs ≡ families_in_runs here.front ++ (own ++ families_in_runs here.back)
  parts = families_around runs here.front here.back here.run here.whole ∙ ap (λ (run : Run). families_in_runs here.front ++ (run.families ++ families_in_runs here.back)) (sym read)

  -- what is between the two numbers
  all_between : families_between (store_of_runs runs) lo hi ≡ between lo hi (families_in_runs here.front) ++ between lo hi own
  all_between =
      between_is (families_in_runs runs) lo hi (runs_rise ROOT_END runs are)
      ∙ ap (between lo hi) parts
      ∙ between_append lo hi (families_in_runs here.front) (own ++ families_in_runs here.back)
      ∙ ap (λ fs. between lo hi (families_in_runs here.front) ++ fs) (between_append lo hi own (families_in_runs here.back) ∙ ap (λ fs. between lo hi own ++ fs) none_behind ∙ append-nil (between lo hi own))

  pub chunk_is : families_between (store_of_runs runs) lo hi ≡ between lo hi (families_in_runs (take at runs)) ++ between lo hi own
  chunk_is = all_between ∙ ap (λ rs. between lo hi (families_in_runs rs) ++ between lo hi own) (sym front_is)

  -- and what isn't
  all_left : (new : List Run) → families_in_runs new ≡ outside lo hi (families_in_runs here.front) ++ (outside lo hi own ++ families_in_runs here.back) → store_of_runs new ≡ without_between (store_of_runs runs) lo hi
  all_left new is =
      ap store_of
      (is
      ∙ ap (λ fs. outside lo hi (families_in_runs here.front) ++ (outside lo hi own ++ fs)) (sym (all_outside lo hi (families_in_runs here.back) none_behind))
      ∙ ap (λ fs. outside lo hi (families_in_runs here.front) ++ fs) (sym (outside_append lo hi own (families_in_runs here.back)))
      ∙ sym (outside_append lo hi (families_in_runs here.front) (own ++ families_in_runs here.back))
      ∙ ap (outside lo hi) (sym parts))
      ∙ sym (outside_is (families_in_runs runs) lo hi (runs_rise ROOT_END runs are)).same

  -- the run at the place without its part of the chunk
  others_are : set runs at other ≡ here.front ++ other ∷ here.back
  others_are = set_run runs here.front here.back here.run other at here.whole here.count

  pub part_runs : AreRuns ROOT_END (set runs at other)
  part_runs =
      let stands = run_stands runs here.front here.back here.run are here.whole in
      let within : are_within here.run.lo (first_bound ROOT_END here.back) other.families ≡ true =
      ap (λ (run : Run). are_within here.run.lo (first_bound ROOT_END here.back) (outside lo hi run.families)) read
      ∙ within_filter (λ (family : FamilyValue). not (nat_le lo family.root && nat_lt family.root hi)) here.run.lo (first_bound ROOT_END here.back) here.run.families stands.own in
      subst (AreRuns ROOT_END) (sym others_are) (run_replaced here.front here.back here.run other stands (ap (λ (run : Run). run.lo) read) within)

  pub either_runs : {A E : Type 0} (new : List Run) (result : Result A E) → OnOk result (new ≡ set runs at other) → OnErr result (new ≡ runs) → AreRuns ROOT_END new
  either_runs new (Ok value) left same = subst (AreRuns ROOT_END) (sym left) part_runs
  either_runs new (Err fault) left same = subst (AreRuns ROOT_END) (sym same) are

  -- has all of the chunk
  module _ (alone : length (families_between (store_of_runs runs) lo hi) ≡ length (between lo hi own)) where
    none_before : between lo hi (families_in_runs here.front) ≡ []
    none_before =
        nil_from_length (between lo hi (families_in_runs here.front)) (omega (arith, ap length all_between, length-append (between lo hi (families_in_runs here.front)) (between lo hi own), alone))

    pub alone_taken : between lo hi own ≡ families_between (store_of_runs runs) lo hi
    alone_taken = sym (all_between ∙ ap (λ fs. fs ++ between lo hi own) none_before)

    pub alone_left : store_of_runs (set runs at other) ≡ without_between (store_of_runs runs) lo hi
    alone_left =
        all_left (set runs at other)
        (ap families_in_runs others_are ∙ families_append here.front (other ∷ here.back)
        ∙ ap (λ fs. fs ++ (outside lo hi own ++ families_in_runs here.back)) (sym (all_outside lo hi (families_in_runs here.front) none_before)))

  pub others_before : take at (set runs at other) ≡ take at runs
  others_before = ap (take at) others_are ∙ take_at here.front (other ∷ here.back) at here.count ∙ sym front_is

  -- those before it gave theirs too
  pub chunk_left : (new : List Run) → IsTakenTo (set runs at other) lo hi at new → store_of_runs new ≡ without_between (store_of_runs runs) lo hi
  chunk_left new taken =
      let rest : drop at new ≡ other ∷ here.back = taken.rest ∙ ap (drop at) others_are ∙ drop_at here.front (other ∷ here.back) at here.count in
      let front : take at (set runs at other) ≡ here.front = others_before ∙ front_is in
      all_left new
      (ap families_in_runs (sym (take-append-drop at new)) ∙ families_append (take at new) (drop at new)
      ∙ (λ i. (taken.left ∙ ap (λ rs. outside lo hi (families_in_runs rs)) front) i ++ families_in_runs (rest i)))

-- no family is between the two numbers
pub none_between : (runs : List Run) (lo hi at : ℕ) → between lo hi (families_in_runs (take at runs)) ≡ [] → between lo hi (families_in_runs (drop at runs)) ≡ [] → between lo hi (families_in_runs runs) ≡ []
none_between runs lo hi at before after =
    ap (between lo hi) (ap families_in_runs (sym (take-append-drop at runs)) ∙ families_append (take at runs) (drop at runs))
    ∙ between_append lo hi (families_in_runs (take at runs)) (families_in_runs (drop at runs))
    ∙ (λ i. before i ++ after i)

module _ (runs : List Run) (lo hi at : ℕ) (are : AreRuns ROOT_END runs) (before : between lo hi (families_in_runs (take at runs)) ≡ []) (after : between lo hi (families_in_runs (drop at runs)) ≡ []) where
  none : between lo hi (families_in_runs runs) ≡ []
  none = none_between runs lo hi at before after

  pub none_taken : [] ≡ families_between (store_of_runs runs) lo hi
  none_taken = sym (between_is (families_in_runs runs) lo hi (runs_rise ROOT_END runs are) ∙ none)

  pub none_left : store_of_runs runs ≡ without_between (store_of_runs runs) lo hi
  none_left = ap store_of (sym (all_outside lo hi (families_in_runs runs) none)) ∙ sym (outside_is (families_in_runs runs) lo hi (runs_rise ROOT_END runs are)).same

-- the last run that may have any of a chunk
pub record IsLastRun (runs : List Run) (lo hi first last at : ℕ) : Type 0 where
  pub inside : at < length runs
  pub after : between lo hi (families_in_runs (drop (at + 1) runs)) ≡ []
  pub upto : first ≤ at

pub last_run : (runs : List Run) (lo hi first last at : ℕ) → IsSpan runs lo hi first last → first < last → at + 1 ≡ last → IsLastRun runs lo hi first last at
last_run runs lo hi first last at span some is =
    let within = span.within in
    record {
      inside = omega (arith, within, is);
      after = ap (λ n. between lo hi (families_in_runs (drop n runs))) is ∙ span.after;
      upto = omega (arith, some, is);
    }

-- the families of a run at a place rise
pub nth_rises : (runs : List Run) (at : ℕ) → AreRuns ROOT_END runs → at < length runs → roots_rise (nth_run runs at).families ≡ true
nth_rises runs at are inside = ap (λ (run : Run). roots_rise run.families) (nth_of runs at inside) ∙ each_rises ROOT_END runs are at (nth_run runs at) inside

-- none is between the two numbers before the first run that may have any
pub front_of_others : (runs : List Run) (at first : ℕ) (other : Run) → first ≤ at → take first (set runs at other) ≡ take first runs
front_of_others runs at first other upto = take-set-le first runs at other upto
