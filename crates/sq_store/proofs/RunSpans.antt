-- The families of runs between two numbers, and from one number on.
use Rattle.std.proofs.Common.{subst, ◌≡◌, ℕ, zero, suc, true, List, [], ◌∷◌, ◌++◌, length, get_or, take, drop, refl, sym, ap, ◌∙◌, arith, append_assoc, length-append, length-take, length-drop}
use Rattle.std.specs.Prelude.{◌+◌, ◌-◌, ◌<◌, ◌≤◌, nat_le, cond, find, slice_get, slice_range, Some, None}
use Rattle.std.proofs.lemmas.Bool.{le-leb, lt-leb}
use Rattle.std.proofs.lemmas.List.{take-append-drop, get_or-take, get_or-drop}
use Rattle.sq_schema.specs.declared.root.TheConstants.{ROOT_END}
use Rattle.std.specs.FinMap.{get}
use Rattle.sq_schema.specs.TxnValue.{TxnValue}
use Rattle.sq_schema.specs.declared.txn.Reply.{Reply}
use Rattle.sq_schema.specs.Family.{FamilyValue}
use Rattle.sq_store.specs.Run.{Run}
use Rattle.sq_store.specs.InOrder.{are_within, family_from}
use Rattle.sq_store.specs.Listed.{roots_rise, store_of, IsStart}
use Rattle.sq_store.specs.StoreValue.{store_after, take_end, families_between}
use Rattle.sq_store.specs.Counting.{chunk_count, root_after}
use Rattle.sq_store.specs.Runs.{between, families_in_runs, first_bound, AreRuns, IsRunOf}
use Rattle.sq_store.proofs.Cuts.{is_cut, count_fits}
use Rattle.sq_store.proofs.Places.{starts_rise}
use Rattle.sq_store.proofs.Lists.{families_in-store_of}
use Rattle.sq_store.proofs.Rising.{rises, none_below}
use Rattle.sq_store.proofs.Within.{within_append, within_front, within_back, within_below, within_from, within_each, within_rise}
use Rattle.sq_store.proofs.Lifts.{get_family_in, get_middle, lifted_after}
use Rattle.sq_store.proofs.Betweens.{has_start, between_slice}
use Rattle.sq_store.proofs.InRuns.{StandsRun, run_stands, front_within, back_within, bound_upto, families_append, families_around, read_at, runs_rise, runs_within, some_item}

from_behind : (lo mid : ℕ) (front back : List FamilyValue) → are_within lo mid front ≡ true → find (λ family. nat_le mid family.root) (front ++ back) ≡ find (λ family. nat_le mid family.root) back
from_behind lo mid [] back low = refl
from_behind lo mid (family ∷ front) back low =
    let r = rises lo mid family front low in
    ap (λ b. cond b (Some family) (find (λ f. nat_le mid f.root) (front ++ back))) (lt-leb mid family.root r.high) ∙ from_behind (family.root + 1) mid front back r.rest

from_first : (mid end : ℕ) (families : List FamilyValue) → are_within mid end families ≡ true → find (λ family. nat_le mid family.root) families ≡ slice_get families 0
from_first mid end [] high = refl
from_first mid end (family ∷ families) high =
    let r = rises mid end family families high in
    ap (λ b. cond b (Some family) (find (λ f. nat_le mid f.root) families)) (le-leb mid family.root r.low)

-- the first family from a number on is the first of those behind it
pub family_behind : (lo mid end : ℕ) (front back : List FamilyValue) → roots_rise (front ++ back) ≡ true → are_within lo mid front ≡ true → are_within mid end back ≡ true → family_from (store_of (front ++ back)) mid ≡ slice_get back 0
family_behind lo mid end front back rising low high =
    ap (find (λ family. nat_le mid family.root)) (families_in-store_of (front ++ back) rising) ∙ from_behind lo mid front back low ∙ from_first mid end back high

-- a run that has families on from the number
pub walked_in : (runs front back : List Run) (run : Run) (key place : ℕ) → AreRuns ROOT_END runs → runs ≡ front ++ run ∷ back → run.lo < key → key ≤ first_bound key back → IsStart run.families key place → place < length run.families
    → family_from (store_of (families_in_runs runs)) key ≡ slice_get run.families place
walked_in runs front back run key place are whole low next start inside =
    let stands = run_stands runs front back run are whole in
    let items = run.families in
    let mid = first_bound ROOT_END back in
    let parts : take place items ++ drop place items ≡ items = take-append-drop place items in
    let own : are_within run.lo mid (take place items ++ drop place items) ≡ true = ap (are_within run.lo mid) parts ∙ stands.own in
    let first : are_within run.lo key (take place items) ≡ true = within_below run.lo mid key (take place items) (within_front run.lo mid (take place items) (drop place items) own)
    (λ k e within.
    let k_place : k < place = omega (arith, length-take place items, within) in
    subst (λ (f : FamilyValue). f.root < key) (sym (get_or-take place items k e k_place)) (start.below k e (omega arith) k_place)) in
    let second : are_within key mid (drop place items) ≡ true = within_from run.lo mid key (drop place items) (within_back run.lo mid (take place items) (drop place items) own)
    (λ k e within. subst (λ (f : FamilyValue). key ≤ f.root) (sym (get_or-drop place items k e)) (start.from (place + k) e (omega arith) (omega (arith, length-drop place items, within)))) in
    let before = families_in_runs front ++ take place items in
    let behind = drop place items ++ families_in_runs back in
    let all : families_in_runs runs ≡ before ++ behind =
    families_around runs front back run whole
    ∙ ap (λ is. families_in_runs front ++ (is ++ families_in_runs back)) (sym parts)
    ∙ ap (λ fs. families_in_runs front ++ fs) (append_assoc (take place items) (drop place items) (families_in_runs back))
    ∙ sym (append_assoc (families_in_runs front) (take place items) behind) in
    let d = some_item items place inside in
    let at_place = within_each run.lo mid items stands.own place d inside in
    let from_key = start.from place d (omega arith) inside in
    let upto : key ≤ mid = omega (arith, at_place.1, from_key) in
    ap (λ fs. family_from (store_of fs) key) all
    ∙ family_behind 0 key ROOT_END before behind (ap roots_rise (sym all) ∙ runs_rise ROOT_END runs are)
    (within_append 0 run.lo key (families_in_runs front) (take place items) (omega arith) (omega (arith, low)) (front_within front back run stands) first)
    (within_append key mid ROOT_END (drop place items) (families_in_runs back) upto (bound_upto ROOT_END back stands.after) second (back_within front back run stands))
    ∙ first_behind items (families_in_runs back) place inside
  where
    first_behind : (items more : List FamilyValue) (place : ℕ) → place < length items → slice_get (drop place items ++ more) 0 ≡ slice_get items place
    first_behind [] more place inside = absurd (omega arith)
    first_behind (family ∷ items) more zero inside = refl
    first_behind (family ∷ items) more (suc place) inside = first_behind items more place (omega arith)

-- another run of the same bound in the place of one
module _ (runs front back : List Run) (run other : Run) (are : AreRuns ROOT_END runs) (whole : runs ≡ front ++ run ∷ back) (same : other.lo ≡ run.lo) (within : are_within run.lo (first_bound ROOT_END back) other.families ≡ true) where
  pub replaced_store : (txn : TxnValue) (reply : Reply) → run.lo ≤ txn.root → txn.root < first_bound ROOT_END back → store_of other.families ≡ store_after (store_of run.families) txn reply
      → store_of (families_in_runs (front ++ other ∷ back)) ≡ store_after (store_of (families_in_runs runs)) txn reply
  replaced_store txn reply low high is =
      let stands = run_stands runs front back run are whole in
      ap store_of (families_append front (other ∷ back))
      ∙ lifted_after run.lo (first_bound ROOT_END back) ROOT_END (families_in_runs front) (families_in_runs back) stands.next (bound_upto ROOT_END back stands.after) (front_within front back run stands) (back_within front back run stands)
      run.families other.families stands.own within txn reply low high is
      ∙ ap (λ fs. store_after (store_of fs) txn reply) (sym (families_around runs front back run whole))

-- the run that a root key belongs to
module _ (runs : List Run) (root at : ℕ) (are : AreRuns ROOT_END runs) (is : IsRunOf runs root at) where
  pub run_facts : StandsRun is.front is.run is.back
  run_facts = run_stands runs is.front is.back is.run are is.whole

  pub run_rises : roots_rise is.run.families ≡ true
  run_rises = within_rise is.run.lo (first_bound ROOT_END is.back) is.run.families run_facts.own

  -- has what the store has
  pub get_in_run : get (store_of (families_in_runs runs)) root ≡ get (store_of is.run.families) root
  get_in_run =
      ap (λ fs. get (store_of fs) root) (families_around runs is.front is.back is.run is.whole)
      ∙ get_middle is.run.lo (first_bound ROOT_END is.back) ROOT_END (families_in_runs is.front) (families_in_runs is.back) run_facts.next (bound_upto ROOT_END is.back run_facts.after) (front_within is.front is.back is.run run_facts)
      (back_within is.front is.back is.run run_facts) is.run.families run_facts.own root is.low is.high

  pub inside_run : at < length runs
  inside_run = omega (arith, ap length is.whole, length-append is.front (is.run ∷ is.back), is.count)

  pub read_run : (d : Run) → get_or runs at d ≡ is.run
  read_run d = read_at runs is.front is.back is.run at d is.whole is.count

-- a root key below all bounds has no family
pub get_below_all : (runs : List Run) (root : ℕ) → AreRuns ROOT_END runs → root < first_bound ROOT_END runs → get (store_of (families_in_runs runs)) root ≡ None
get_below_all runs root are below =
    get_family_in (families_in_runs runs) (runs_rise ROOT_END runs are) root ∙ none_below (first_bound ROOT_END runs) ROOT_END (families_in_runs runs) root (runs_within ROOT_END runs are) below

-- what a chunk takes of the families between two numbers, and where it ends
pub record TakesChunk (families : List FamilyValue) (lo hi limit count end : ℕ) : Type 0 where
  pub ends : end ≡ take_end (store_of families) lo hi limit
  pub counted : length (families_between (store_of families) lo end) ≡ count
  pub within : are_within lo end (families_between (store_of families) lo end) ≡ true
  pub from : lo ≤ end
  pub upto : end ≤ hi

pub takes_chunk : (families : List FamilyValue) (lo hi limit count end : ℕ) → roots_rise families ≡ true → lo ≤ hi → count ≡ chunk_count limit (between lo hi families) → end ≡ root_after hi (between lo hi families) count
    → TakesChunk families lo hi limit count end
takes_chunk families lo hi limit count end rising rise counted ended =
    let low = has_start families lo rising in
    let high = has_start families hi rising in
    let first = low.at in
    let last = high.at in
    let slice : between lo hi families ≡ slice_range families first last = sym (between_slice families lo hi first last rising rise low.is high.is) in
    let number : count ≡ chunk_count limit (slice_range families first last) = counted ∙ ap (chunk_count limit) slice in
    let cut = is_cut (store_of families) families lo hi hi limit first last count rising refl low.is high.is (λ rises. refl) (λ falls. absurd (omega (arith, rise, falls))) number in
    let same : end ≡ root_after hi (slice_range families first last) count = ended ∙ ap (λ fs. root_after hi fs count) slice in
    let fits = count_fits families first last limit count (starts_rise families lo hi first last rise low.is high.is) high.is.within number in
    let taken : slice_range families first (first + count) ≡ families_between (store_of families) lo end = cut.taken_is ∙ ap (families_between (store_of families) lo) (sym same) in
    let long : length (slice_range families first (first + count)) ≡ count = omega (arith, length-take (first + count - first) (drop first families), length-drop first families, fits, high.is.within) in
    record {
      ends = same ∙ cut.ends;
      counted = ap length (sym taken) ∙ long;
      within = (λ i. are_within lo (same i) (sym taken i)) ∙ cut.within;
      from = let f = cut.from rise in omega (arith, same, f);
      upto = let u = cut.upto in omega (arith, same, u);
    }
