-- Runs of families, one behind another.
use Rattle.std.proofs.Common.{subst, ◌≡◌, ℕ, zero, suc, true, false, List, [], ◌∷◌, ◌++◌, length, get_or, take, drop, refl, sym, ap, ◌∙◌, arith, append_assoc, length-append, length-take, length-drop}
use Rattle.std.specs.Prelude.{◌+◌, ◌<◌, ◌≤◌, nat_lt}
use Rattle.std.specs.List.Sorted.{IsPartitionedBy, IsPartitionPoint}
use Rattle.std.proofs.lemmas.Bool.{ltb-true, ltb-false, lt-ltb}
use Rattle.std.proofs.lemmas.Grind.{flat_map-append}
use Rattle.std.proofs.lemmas.List.{take-append-drop, get_or-take, get_or-drop, get_or_at, drop_at}
use Rattle.sq_schema.specs.declared.root.TheConstants.{ROOT_END}
use Rattle.sq_schema.specs.Family.{FamilyValue}
use Rattle.sq_store.specs.Run.{Run}
use Rattle.sq_store.specs.InOrder.{are_within}
use Rattle.sq_store.specs.Listed.{roots_rise, IsStart}
use Rattle.sq_store.specs.Runs.{families_in_runs, first_bound, AreRuns, IsBoundPlace, IsRunOf, IsCutRun, IsSplit, KeepsFamilies}
use Rattle.sq_store.proofs.Places.{start_at}
use Rattle.sq_store.proofs.Within.{within_wider, within_append, within_front, within_back, within_below, within_from, within_each, within_rise, within_length}

-- the bound of the first run is not above the end
pub bound_upto : (hi : ℕ) (runs : List Run) → AreRuns hi runs → first_bound hi runs ≤ hi
bound_upto hi [] are = omega arith
bound_upto hi (run ∷ runs) are = let rest = bound_upto hi runs are.2 in omega (arith, rest, are.0)

bound_append : (hi : ℕ) (front back : List Run) → first_bound hi (front ++ back) ≡ first_bound (first_bound hi back) front
bound_append hi [] back = refl
bound_append hi (run ∷ front) back = refl

-- runs in two parts
pub runs_front : (hi : ℕ) (front back : List Run) → AreRuns hi (front ++ back) → AreRuns (first_bound hi back) front
runs_front hi [] back are = tt
runs_front hi (run ∷ front) back are =
    (subst (λ n. run.lo ≤ n) (bound_append hi front back) are.0, subst (λ n. are_within run.lo n run.families ≡ true) (bound_append hi front back) are.1, runs_front hi front back are.2)

pub runs_back : (hi : ℕ) (front back : List Run) → AreRuns hi (front ++ back) → AreRuns hi back
runs_back hi [] back are = are
runs_back hi (run ∷ front) back are = runs_back hi front back are.2

pub runs_append : (hi : ℕ) (front back : List Run) → AreRuns (first_bound hi back) front → AreRuns hi back → AreRuns hi (front ++ back)
runs_append hi [] back first second = second
runs_append hi (run ∷ front) back first second =
    (subst (λ n. run.lo ≤ n) (sym (bound_append hi front back)) first.0, subst (λ n. are_within run.lo n run.families ≡ true) (sym (bound_append hi front back)) first.1, runs_append hi front back first.2 second)

-- runs up to an end are runs up to a later one
pub runs_raised : (low high : ℕ) (runs : List Run) → AreRuns low runs → low ≤ high → AreRuns high runs
runs_raised low high [] are more = tt
runs_raised low high (run ∷ []) are more = (omega (arith, are.0), within_wider run.lo low run.lo high run.families are.1 (omega arith) more, tt)
runs_raised low high (run ∷ next ∷ runs) are more = (are.0, are.1, runs_raised low high (next ∷ runs) are.2 more)

-- the families of runs rise from the bound of the first run on
pub runs_within : (hi : ℕ) (runs : List Run) → AreRuns hi runs → are_within (first_bound hi runs) hi (families_in_runs runs) ≡ true
runs_within hi [] are = refl
runs_within hi (run ∷ runs) are = within_append run.lo (first_bound hi runs) hi run.families (families_in_runs runs) are.0 (bound_upto hi runs are.2) are.1 (runs_within hi runs are.2)

pub runs_rise : (hi : ℕ) (runs : List Run) → AreRuns hi runs → roots_rise (families_in_runs runs) ≡ true
runs_rise hi runs are = within_rise (first_bound hi runs) hi (families_in_runs runs) (runs_within hi runs are)

pub runs_length : (hi : ℕ) (runs : List Run) → AreRuns hi runs → length (families_in_runs runs) ≤ hi
runs_length hi runs are = let n = within_length (first_bound hi runs) hi (families_in_runs runs) (bound_upto hi runs are) (runs_within hi runs are) in omega (arith, n)

pub families_append : (front back : List Run) → families_in_runs (front ++ back) ≡ families_in_runs front ++ families_in_runs back
families_append front back = flat_map-append (λ (run : Run). run.families) front back

-- the bounds rise
bound_at : (hi : ℕ) (runs : List Run) (k : ℕ) (d : Run) → AreRuns hi runs → k < length runs → first_bound hi runs ≤ (get_or runs k d).lo
bound_at hi [] k d are within = absurd (omega arith)
bound_at hi (run ∷ runs) zero d are within = omega arith
bound_at hi (run ∷ runs) (suc k) d are within = let rest = bound_at hi runs k d are.2 (omega arith) in omega (arith, rest, are.0)

pub bounds_rise : (hi : ℕ) (runs : List Run) (i k : ℕ) (d : Run) → AreRuns hi runs → i ≤ k → k < length runs → (get_or runs i d).lo ≤ (get_or runs k d).lo
bounds_rise hi [] i k d are upto within = absurd (omega arith)
bounds_rise hi (run ∷ runs) zero k d are upto within = bound_at hi (run ∷ runs) k d are within
bounds_rise hi (run ∷ runs) (suc i) zero d are upto within = absurd (omega arith)
bounds_rise hi (run ∷ runs) (suc i) (suc k) d are upto within = bounds_rise hi runs i k d are.2 (omega arith) (omega arith)

bound_from : (runs : List Run) (key at : ℕ) → ((k : ℕ) (d : Run) → at ≤ k → k < length runs → key ≤ (get_or runs k d).lo) → key ≤ first_bound key (drop at runs)
bound_from [] key zero from = omega arith
bound_from [] key (suc at) from = omega arith
bound_from (run ∷ runs) key zero from = from 0 run (omega arith) (omega arith)
bound_from (run ∷ runs) key (suc at) from = bound_from runs key at (λ k d low within. from (suc k) d (omega (arith, low)) (omega (arith, within)))

-- a search by a bound ends behind the runs whose bounds are below it
pub placed : (hi : ℕ) (runs : List Run) (key at : ℕ) → AreRuns hi runs → at ≤ length runs
    → (IsPartitionedBy (λ run. nat_lt run.lo key) runs → IsPartitionPoint (λ run. nat_lt run.lo key ≡ true) (λ run. nat_lt run.lo key ≡ false) runs at)
    → IsBoundPlace runs key at
placed hi runs key at are within parted =
    let sides = parted (λ i j d upto inside passes.
    let low = bounds_rise hi runs i j d are upto inside in
    let less = ltb-true (get_or runs j d).lo key passes in
    lt-ltb (get_or runs i d).lo key (omega (arith, low, less))) in
    record {
      within = within;
      below = λ k d inside.
          let inside_at : k < at = omega (arith, length-take at runs, inside) in
          subst (λ (run : Run). run.lo < key) (sym (get_or-take at runs k d inside_at)) (ltb-true (get_or runs k d).lo key (sides.0 k d (omega arith) inside_at));
      from = bound_from runs key at (λ k d low inside. ltb-false (get_or runs k d).lo key (sides.1 k d low inside));
    }

-- a run among others
pub record IsAt (runs : List Run) (at : ℕ) : Type 0 where
  pub front : List Run
  pub run : Run
  pub back : List Run
  pub whole : runs ≡ front ++ run ∷ back
  pub count : length front ≡ at

pub run_at : (runs : List Run) (at : ℕ) → at < length runs → IsAt runs at
run_at [] at within = absurd (omega arith)
run_at (run ∷ runs) zero within = record { front = []; run = run; back = runs; whole = refl; count = refl }
run_at (run ∷ runs) (suc at) within =
    let rest = run_at runs at (omega arith) in
    record { front = run ∷ rest.front; run = rest.run; back = rest.back; whole = ap (λ (rs : List Run). run ∷ rs) rest.whole; count = omega (arith, rest.count) }

pub read_at : (runs front back : List Run) (run : Run) (at : ℕ) (d : Run) → runs ≡ front ++ run ∷ back → length front ≡ at → get_or runs at d ≡ run
read_at runs front back run at d whole count = ap (λ rs. get_or rs at d) whole ∙ get_or_at front run back d at count

-- the facts of a run among others
pub record StandsRun (front : List Run) (run : Run) (back : List Run) : Type 0 where
  pub before : AreRuns run.lo front
  pub next : run.lo ≤ first_bound ROOT_END back
  pub own : are_within run.lo (first_bound ROOT_END back) run.families ≡ true
  pub after : AreRuns ROOT_END back

pub run_stands : (runs front back : List Run) (run : Run) → AreRuns ROOT_END runs → runs ≡ front ++ run ∷ back → StandsRun front run back
run_stands runs front back run are whole =
    let all = subst (AreRuns ROOT_END) whole are in
    let last = runs_back ROOT_END front (run ∷ back) all in
    record { before = runs_front ROOT_END front (run ∷ back) all; next = last.0; own = last.1; after = last.2 }

-- another run of the same bound in its place
pub run_replaced : (front back : List Run) (run other : Run) → StandsRun front run back → other.lo ≡ run.lo → are_within run.lo (first_bound ROOT_END back) other.families ≡ true → AreRuns ROOT_END (front ++ other ∷ back)
run_replaced front back run other stands same within =
    runs_append ROOT_END front (other ∷ back) (subst (λ n. AreRuns n front) (sym same) stands.before)
    (subst (λ n. n ≤ first_bound ROOT_END back) (sym same) stands.next, subst (λ n. are_within n (first_bound ROOT_END back) other.families ≡ true) (sym same) within, stands.after)

-- the families before a run, those of the run, and those behind it
pub front_within : (front back : List Run) (run : Run) → StandsRun front run back → are_within 0 run.lo (families_in_runs front) ≡ true
front_within front back run stands = within_wider (first_bound run.lo front) run.lo 0 run.lo (families_in_runs front) (runs_within run.lo front stands.before) (omega arith) (omega arith)

pub back_within : (front back : List Run) (run : Run) → StandsRun front run back → are_within (first_bound ROOT_END back) ROOT_END (families_in_runs back) ≡ true
back_within front back run stands = runs_within ROOT_END back stands.after

pub families_around : (runs front back : List Run) (run : Run) → runs ≡ front ++ run ∷ back → families_in_runs runs ≡ families_in_runs front ++ (run.families ++ families_in_runs back)
families_around runs front back run whole = ap families_in_runs whole ∙ families_append front (run ∷ back)

-- the run that a root key belongs to is the last whose bound isn't above it
behind_all : (root : ℕ) (back : List Run) → root < ROOT_END → root + 1 ≤ first_bound (root + 1) back → root < first_bound ROOT_END back
behind_all root [] bound from = bound
behind_all root (run ∷ back) bound from = omega (arith, from)

pub found_run : (runs : List Run) (root at place : ℕ) → at + 1 ≡ place → root < ROOT_END → IsBoundPlace runs (root + 1) place → IsRunOf runs root at
found_run runs root at place behind bound is =
    let here = run_at runs at (omega (arith, is.within, behind)) in
    let inside : at < length (take place runs) = omega (arith, length-take place runs, is.within, behind) in
    let read : get_or (take place runs) at here.run ≡ here.run = get_or-take place runs at here.run (omega (arith, behind)) ∙ read_at runs here.front here.back here.run at here.run here.whole here.count in
    let low : here.run.lo < root + 1 = subst (λ (run : Run). run.lo < root + 1) read (is.below at here.run inside) in
    let parts : here.front ++ here.run ∷ here.back ≡ (here.front ++ here.run ∷ []) ++ here.back = sym (append_assoc here.front (here.run ∷ []) here.back) in
    let count : length (here.front ++ here.run ∷ []) ≡ place = omega (arith, length-append here.front (here.run ∷ []), here.count, behind) in
    let rest : drop place runs ≡ here.back = ap (drop place) (here.whole ∙ parts) ∙ drop_at (here.front ++ here.run ∷ []) here.back place count in
    record {
      front = here.front;
      run = here.run;
      back = here.back;
      whole = here.whole;
      count = here.count;
      low = omega (arith, low);
      high = behind_all root here.back bound (subst (λ rs. root + 1 ≤ first_bound (root + 1) rs) rest is.from);
    }

-- a run that is split keeps the families
module _ (old new front back : List Run) (run one two : Run) (place : ℕ) (are : AreRuns ROOT_END old) (was : old ≡ front ++ run ∷ back) (is : new ≡ front ++ one ∷ two ∷ back)
    (inside : place < length run.families) (parts : IsCutRun run place one two) where
  abbrev items : List FamilyValue
  items = run.families

  stands : StandsRun front run back
  stands = run_stands old front back run are was

  whole_items : take place items ++ drop place items ≡ items
  whole_items = take-append-drop place items

  starts : (d : FamilyValue) → IsStart items two.lo place
  starts d = subst (λ n. IsStart items n place) (sym (parts.first d)) (start_at items place d (within_rise run.lo (first_bound ROOT_END back) items stands.own) inside)

  own_parts : are_within run.lo (first_bound ROOT_END back) (take place items ++ drop place items) ≡ true
  own_parts = ap (are_within run.lo (first_bound ROOT_END back)) whole_items ∙ stands.own

  two_bounds : (d : FamilyValue) → (run.lo ≤ two.lo) × (two.lo < first_bound ROOT_END back)
  two_bounds d =
      let each = within_each run.lo (first_bound ROOT_END back) items stands.own place d inside in
      let e = parts.first d in
      (omega (arith, each.0, e), omega (arith, each.1, e))

  front_items : (d : FamilyValue) → are_within run.lo two.lo (take place items) ≡ true
  front_items d =
      let s = starts d in
      within_below run.lo (first_bound ROOT_END back) two.lo (take place items) (within_front run.lo (first_bound ROOT_END back) (take place items) (drop place items) own_parts)
      (λ k e within.
      let k_place : k < place = omega (arith, length-take place items, within) in
      subst (λ (f : FamilyValue). f.root < two.lo) (sym (get_or-take place items k e k_place)) (s.below k e (omega arith) k_place))

  back_items : (d : FamilyValue) → are_within two.lo (first_bound ROOT_END back) (drop place items) ≡ true
  back_items d =
      let s = starts d in
      within_from run.lo (first_bound ROOT_END back) two.lo (drop place items) (within_back run.lo (first_bound ROOT_END back) (take place items) (drop place items) own_parts)
      (λ k e within. subst (λ (f : FamilyValue). two.lo ≤ f.root) (sym (get_or-drop place items k e)) (s.from (place + k) e (omega arith) (omega (arith, length-drop place items, within))))

  pub split_runs : FamilyValue → AreRuns ROOT_END new
  split_runs d =
      let bounds = two_bounds d in
      subst (AreRuns ROOT_END) (sym is)
      (runs_append ROOT_END front (one ∷ two ∷ back) (subst (λ n. AreRuns n front) (sym parts.lo) stands.before) (
        omega (arith, bounds.0, parts.lo),
        subst (λ n. are_within n two.lo one.families ≡ true) (sym parts.lo) (ap (are_within run.lo two.lo) parts.kept ∙ front_items d),
        (omega (arith, bounds.1), ap (are_within two.lo (first_bound ROOT_END back)) parts.cut ∙ back_items d, stands.after),
      ))

  pub split_families : families_in_runs new ≡ families_in_runs old
  split_families =
      ap families_in_runs is ∙ families_append front (one ∷ two ∷ back)
      ∙ (λ i. families_in_runs front ++ (parts.kept i ++ (parts.cut i ++ families_in_runs back)))
      ∙ ap (λ fs. families_in_runs front ++ fs) (sym (append_assoc (take place items) (drop place items) (families_in_runs back)) ∙ ap (λ fs. fs ++ families_in_runs back) whole_items)
      ∙ sym (families_around old front back run was)

-- an element of a list that has one
pub some_item : (families : List FamilyValue) (place : ℕ) → place < length families → FamilyValue
some_item [] place inside = absurd (omega arith)
some_item (family ∷ families) place inside = family

pub split_keeps : (old new : List Run) (at place : ℕ) → AreRuns ROOT_END old → (split : IsSplit old at place new) → place < length split.run.families → KeepsFamilies old new
split_keeps old new at place are split inside =
    let d = some_item split.run.families place inside in
    record {
      runs = split_runs old new split.front split.back split.run split.one split.two place are split.was split.is inside split.parts d;
      families = split_families old new split.front split.back split.run split.one split.two place are split.was split.is inside split.parts;
    }

-- a run before the place, and those behind the place
pub record IsLast (runs : List Run) (key at : ℕ) : Type 0 where
  pub here : IsAt runs at
  pub low : here.run.lo < key
  pub from : key ≤ first_bound key here.back

pub last_below : (runs : List Run) (key at place : ℕ) → at + 1 ≡ place → IsBoundPlace runs key place → IsLast runs key at
last_below runs key at place behind is =
    let here = run_at runs at (omega (arith, is.within, behind)) in
    let inside : at < length (take place runs) = omega (arith, length-take place runs, is.within, behind) in
    let read : get_or (take place runs) at here.run ≡ here.run = get_or-take place runs at here.run (omega (arith, behind)) ∙ read_at runs here.front here.back here.run at here.run here.whole here.count in
    let parts : here.front ++ here.run ∷ here.back ≡ (here.front ++ here.run ∷ []) ++ here.back = sym (append_assoc here.front (here.run ∷ []) here.back) in
    let count : length (here.front ++ here.run ∷ []) ≡ place = omega (arith, length-append here.front (here.run ∷ []), here.count, behind) in
    let rest : drop place runs ≡ here.back = ap (drop place) (here.whole ∙ parts) ∙ drop_at (here.front ++ here.run ∷ []) here.back place count in
    record { here = here; low = subst (λ (run : Run). run.lo < key) read (is.below at here.run inside); from = subst (λ rs. key ≤ first_bound key rs) rest is.from }

pub behind_within : (hi : ℕ) (runs : List Run) → AreRuns ROOT_END runs → hi ≤ first_bound hi runs → are_within hi (hi + ROOT_END) (families_in_runs runs) ≡ true
behind_within hi [] are from = refl
behind_within hi (run ∷ runs) are from = within_wider run.lo ROOT_END hi (hi + ROOT_END) (families_in_runs (run ∷ runs)) (runs_within ROOT_END (run ∷ runs) are) from (omega arith)
