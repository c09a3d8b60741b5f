-- Where searches in runs end.
use Rattle.std.proofs.Common.{subst, ⊎_elim, ◌≡◌, ℕ, zero, suc, true, List, [], ◌∷◌, ◌++◌, length, get_or, take, drop, refl, sym, ap, ◌∙◌, arith, append_assoc, append-nil, length-append, length-take}
use Rattle.std.specs.Prelude.{◌+◌, ◌-◌, ◌<◌, ◌≤◌, slice_get, Option, Some, None, SomeIff, IfSome}
use Rattle.std.proofs.lemmas.Bool.{cases_lt}
use Rattle.std.proofs.lemmas.List.{take-append-drop, get_or-take, take_at}
use Rattle.sq_schema.specs.declared.root.TheConstants.{ROOT_END}
use Rattle.sq_schema.specs.Family.{FamilyValue}
use Rattle.sq_store.specs.InOrder.{are_within, family_from}
use Rattle.sq_store.specs.Listed.{roots_rise, store_of, IsRootAt, IsStart}
use Rattle.sq_store.specs.StoreValue.{absent}
use Rattle.sq_store.specs.Run.{Run, empty_run}
use Rattle.sq_store.specs.Runs.{families_in_runs, store_of_runs, nth_run, between, first_bound, AreRuns, IsBoundPlace, IsFamilyAt, IsRunOf, IsSpan}
use Rattle.sq_store.proofs.Within.{within_append, within_below, within_each, filter_below, filter_above}
use Rattle.sq_store.proofs.InRuns.{IsLast, run_at, read_at, last_below, run_stands, found_run, front_within, families_append, runs_back, runs_rise, behind_within}
use Rattle.sq_store.proofs.RunSpans.{family_behind}

-- the run of a root key is the last whose bound isn't above it
pub found_place : (runs : List Run) (root number place : ℕ) (found : Option ℕ) → number ≡ root → number < ROOT_END → IsBoundPlace runs (number + 1) place → SomeIff found (1 ≤ place) (place - 1) → IfSome found (IsRunOf runs root)
found_place runs root number place None same bound is found = tt
found_place runs root number place (Some at) same bound is found =
    subst (λ n. IsRunOf runs n at) same (found_run runs number at place (omega (arith, found.0, found.1)) bound is)

-- where all families of the runs before a place are below a number, and the bounds from there on aren't, the first family from the number on is the first behind the place
pub walked_past : (runs : List Run) (key place : ℕ) → AreRuns ROOT_END runs → IsBoundPlace runs key place → are_within 0 key (families_in_runs (take place runs)) ≡ true
    → family_from (store_of_runs runs) key ≡ slice_get (families_in_runs (drop place runs)) 0
walked_past runs key place are is below =
    let front = take place runs in
    let back = drop place runs in
    let parts : runs ≡ front ++ back = sym (take-append-drop place runs) in
    let all = subst (AreRuns ROOT_END) parts are in
    let whole : families_in_runs runs ≡ families_in_runs front ++ families_in_runs back = ap families_in_runs parts ∙ families_append front back in
    ap (λ fs. family_from (store_of fs) key) whole
    ∙ family_behind 0 key (key + ROOT_END) (families_in_runs front) (families_in_runs back) (ap roots_rise (sym whole) ∙ runs_rise ROOT_END runs are) below (behind_within key back (runs_back ROOT_END front back all) is.from)

-- the last run before the place has none from the number on
pub below_last : (runs : List Run) (key at place : ℕ) (last : IsLast runs key at) → at + 1 ≡ place → AreRuns ROOT_END runs → IsStart last.here.run.families key (length last.here.run.families)
    → are_within 0 key (families_in_runs (take place runs)) ≡ true
below_last runs key at place last behind are start =
    let here = last.here in
    let items = here.run.families in
    let stands = run_stands runs here.front here.back here.run are here.whole in
    let parts : runs ≡ (here.front ++ here.run ∷ []) ++ here.back = here.whole ∙ sym (append_assoc here.front (here.run ∷ []) here.back) in
    let count : length (here.front ++ here.run ∷ []) ≡ place = omega (arith, length-append here.front (here.run ∷ []), here.count, behind) in
    let taken : take place runs ≡ here.front ++ here.run ∷ [] = ap (take place) parts ∙ take_at (here.front ++ here.run ∷ []) here.back place count in
    let own = within_below here.run.lo (first_bound ROOT_END here.back) key items stands.own (λ k d inside. start.below k d (omega arith) inside) in
    ap (λ rs. are_within 0 key (families_in_runs rs)) taken
    ∙ ap (are_within 0 key) (families_append here.front (here.run ∷ []) ∙ ap (λ fs. families_in_runs here.front ++ fs) (append-nil items))
    ∙ within_append 0 here.run.lo key (families_in_runs here.front) items (omega arith) (omega (arith, last.low)) (front_within here.front here.back here.run stands) own

-- nor where the search in it ends behind all of its families
pub below_unfound : (runs : List Run) (key at place start : ℕ) (d : Run) (items others : List FamilyValue) → at + 1 ≡ place → AreRuns ROOT_END runs → IsBoundPlace runs key place
    → items ≡ (get_or runs at d).families → others ≡ (get_or runs at d).families → IsStart others key start → length items ≤ start → are_within 0 key (families_in_runs (take place runs)) ≡ true
below_unfound runs key at place start d items others behind are bound is same starts past =
    let last = last_below runs key at place behind bound in
    let here = last.here in
    let read : (get_or runs at d).families ≡ here.run.families = ap (λ (run : Run). run.families) (read_at runs here.front here.back here.run at d here.whole here.count) in
    let own : IsStart here.run.families key start = subst (λ fs. IsStart fs key start) (same ∙ read) starts in
    let all : start ≡ length here.run.families = omega (arith, own.within, ap length (is ∙ read), past) in
    below_last runs key at place last behind are (subst (λ n. IsStart here.run.families key n) all own)

pub none_at : (place : ℕ) → (1 ≤ place → ⊥) → place ≡ 0
none_at zero none = refl
none_at (suc place) none = absurd (none (omega arith))

bound_below : (key at : ℕ) (runs : List Run) (k : ℕ) (d : Run) → IsBoundPlace runs key at → k < at → (get_or runs k d).lo < key
bound_below key at runs k d is inside =
    subst (λ (run : Run). run.lo < key) (get_or-take at runs k d inside) (is.below k d (omega (arith, length-take at runs, is.within, inside)))

from_at : (key at : ℕ) (runs : List Run) (d : Run) → key ≤ first_bound key (drop at runs) → at < length runs → key ≤ (get_or runs at d).lo
from_at key at [] d from within = absurd (omega arith)
from_at key zero (run ∷ runs) d from within = from
from_at key (suc at) (run ∷ runs) d from within = from_at key at runs d from (omega arith)

places_rise : (runs : List Run) (lo hi first last : ℕ) → lo ≤ hi → IsBoundPlace runs lo first → IsBoundPlace runs hi last → first ≤ last
places_rise runs lo hi first last rise low high =
    ⊎_elim
    (λ (later : last < first).
    let inside : last < length runs = omega (arith, later, low.within) in
    let here = run_at runs last inside in
    let below = bound_below lo first runs last here.run low later in
    let from = from_at hi last runs here.run high.from inside in
    absurd (omega (arith, rise, below, from)))
    (λ (upto : first ≤ last). upto)
    (cases_lt last first)

none_before : (runs : List Run) (lo hi first : ℕ) → AreRuns ROOT_END runs → IsBoundPlace runs lo first → between lo hi (families_in_runs (take (first - 1) runs)) ≡ []
none_before runs lo hi zero are low = refl
none_before runs lo hi (suc at) are low =
    let last = last_below runs lo at (suc at) (omega arith) low in
    let here = last.here in
    let stands = run_stands runs here.front here.back here.run are here.whole in
    let taken : take at runs ≡ here.front = ap (take at) here.whole ∙ take_at here.front (here.run ∷ here.back) at here.count in
    let less : suc at - 1 ≡ at = omega arith in
    ap (λ n. between lo hi (families_in_runs (take n runs))) less
    ∙ ap (λ rs. between lo hi (families_in_runs rs)) taken
    ∙ filter_below 0 here.run.lo (families_in_runs here.front) (front_within here.front here.back here.run stands) lo hi (omega (arith, last.low))

-- the runs that may have families between two numbers
pub span : (runs : List Run) (lo hi first last : ℕ) → lo ≤ hi → AreRuns ROOT_END runs → IsBoundPlace runs lo first → IsBoundPlace runs hi last → IsSpan runs lo hi (first - 1) last
span runs lo hi first last rise are low high =
    let upto = places_rise runs lo hi first last rise low high in
    let behind = runs_back ROOT_END (take last runs) (drop last runs) (subst (AreRuns ROOT_END) (sym (take-append-drop last runs)) are) in
    record {
      rise = omega (arith, upto);
      within = high.within;
      before = none_before runs lo hi first are low;
      after = filter_above hi (hi + ROOT_END) (families_in_runs (drop last runs)) (behind_within hi (drop last runs) behind high.from) lo hi (omega arith);
    }

-- a family of a run stands there, and its root key belongs to the run
pub family_at : (runs : List Run) (root run at : ℕ) (items : List FamilyValue) → AreRuns ROOT_END runs → run < length runs → items ≡ (nth_run runs run).families → IsRootAt items root at → IsFamilyAt runs root run at
family_at runs root run at items are inside is here =
    let place = run_at runs run inside in
    let own = place.run.families in
    let same : items ≡ own = is ∙ ap (λ (r : Run). r.families) (read_at runs place.front place.back place.run run empty_run place.whole place.count) in
    let stands = run_stands runs place.front place.back place.run are place.whole in
    let found : IsRootAt own root at = subst (λ fs. IsRootAt fs root at) same here in
    let each = within_each place.run.lo (first_bound ROOT_END place.back) own stands.own at (absent root) found.within in
    let key : (get_or own at (absent root)).root ≡ root = found.here (absent root) in
    record {
      of = record {
        front = place.front;
        run = place.run;
        back = place.back;
        whole = place.whole;
        count = place.count;
        low = omega (arith, each.0, key);
        high = omega (arith, each.1, key);
      };
      here = found;
    }
