-- Families that are put in together.
use Rattle.std.proofs.Common.{subst, ◌≡◌, ℕ, true, List, [], ◌∷◌, ◌++◌, length, get_or, set, refl, sym, ap, ◌∙◌, arith, append_assoc}
use Rattle.std.specs.Prelude.{◌+◌, ◌-◌, ◌<◌, ◌≤◌, Some, slice_get}
use Rattle.std.specs.FinMap.{insert}
use Rattle.std.specs.List.{insert as put_in}
use Rattle.std.proofs.lemmas.List.{get_or_default}
use Rattle.std.proofs.lemmas.Option.{slice_get-get_or}
use Rattle.sq_schema.specs.declared.root.TheConstants.{ROOT_END}
use Rattle.sq_schema.specs.Family.{FamilyValue}
use Rattle.sq_store.specs.InOrder.{are_within}
use Rattle.sq_store.specs.Listed.{roots_rise, store_of}
use Rattle.sq_store.specs.StoreValue.{with_families}
use Rattle.sq_store.proofs.Order.{rising_upto}
use Rattle.sq_store.proofs.Joins.{store_of_none}
use Rattle.sq_store.proofs.Rising.{rises}
use Rattle.sq_store.specs.Run.{Run}
use Rattle.sq_store.specs.Runs.{families_in_runs, store_of_runs, first_bound, AreRuns, IsGap, HasGap}
use Rattle.sq_store.proofs.Within.{within_cons, within_wider, within_append}
use Rattle.sq_store.proofs.Lifts.{lifted_insert, store_of_given, within_from_rise}
use Rattle.sq_store.proofs.InRuns.{StandsRun, run_stands, run_replaced, runs_append, front_within, back_within, families_append, families_around}
use Rattle.sq_store.proofs.MadeRuns.{put_behind_run}
use Rattle.sq_store.proofs.SetRuns.{set_run}

-- one family is between others
one_between : (lo : ℕ) (front back : List FamilyValue) (family : FamilyValue) → are_within 0 lo front ≡ true → lo ≤ family.root → family.root < ROOT_END → are_within (family.root + 1) ROOT_END back ≡ true
    → store_of (front ++ (family ∷ back)) ≡ insert (store_of (front ++ back)) family.root family
one_between lo front back family low from below high =
    let alone : are_within family.root (family.root + 1) (family ∷ []) ≡ true = within_cons family.root (family.root + 1) family [] (omega arith) (omega arith) refl in
    lifted_insert family.root (family.root + 1) ROOT_END front back (omega arith) (omega (arith, below)) (within_wider 0 lo 0 family.root front low (omega arith) from) high
    [] (family ∷ []) refl alone family.root family (omega arith) (omega arith)
    (store_of_given (family ∷ []) refl ∙ ap (λ store. insert store family.root family) (sym store_of_none))

-- families are between others
pub all_between : (lo end : ℕ) (front items back : List FamilyValue) → are_within 0 lo front ≡ true → are_within lo end items ≡ true → end ≤ ROOT_END → are_within end ROOT_END back ≡ true
    → store_of (front ++ (items ++ back)) ≡ with_families (store_of (front ++ back)) items
all_between lo end front [] back low within bound high = refl
all_between lo end front (family ∷ items) back low within bound high =
    let r = rises lo end family items within in
    let first = front ++ family ∷ [] in
    let before : are_within 0 (family.root + 1) first ≡ true =
    within_append 0 lo (family.root + 1) front (family ∷ []) (omega arith) (omega (arith, r.low)) low (within_cons lo (family.root + 1) family [] r.low (omega arith) refl) in
    let behind : are_within (family.root + 1) ROOT_END back ≡ true = within_wider end ROOT_END (family.root + 1) ROOT_END back high (omega (arith, r.high)) (omega arith) in
    ap store_of (sym (append_assoc front (family ∷ []) (items ++ back)))
    ∙ all_between (family.root + 1) end first items back before r.rest bound high
    ∙ ap (λ fs. with_families (store_of fs) items) (append_assoc front (family ∷ []) back)
    ∙ ap (λ store. with_families store items) (one_between lo front back family low r.low (omega (arith, r.high, bound)) behind)

-- families fit into a gap behind a run
module _ (runs : List Run) (items : List FamilyValue) (lo at : ℕ) (are : AreRuns ROOT_END runs) (has : HasGap runs items lo at) where
  abbrev gap : IsGap runs lo has.end at
  gap = has.gap

  stands : StandsRun gap.front gap.run gap.back
  stands = run_stands runs gap.front gap.back gap.run are gap.whole

  abbrev next_bound : ℕ
  next_bound = first_bound ROOT_END gap.back

  end_upto : (back : List Run) → has.end ≤ first_bound has.end back → has.end ≤ first_bound ROOT_END back
  end_upto [] next = has.bound
  end_upto (run ∷ back) next = next

  upto : has.end ≤ next_bound
  upto = end_upto gap.back gap.next

  abbrev before : List FamilyValue
  before = families_in_runs gap.front ++ gap.run.families

  abbrev behind : List FamilyValue
  behind = families_in_runs gap.back

  low : are_within 0 lo before ≡ true
  low = within_append 0 gap.run.lo lo (families_in_runs gap.front) gap.run.families (omega arith) gap.low (front_within gap.front gap.back gap.run stands) gap.below

  high : are_within has.end ROOT_END behind ≡ true
  high = within_wider next_bound ROOT_END has.end ROOT_END behind (back_within gap.front gap.back gap.run stands) upto (omega arith)

  parts : families_in_runs runs ≡ before ++ behind
  parts = families_around runs gap.front gap.back gap.run gap.whole ∙ sym (append_assoc (families_in_runs gap.front) gap.run.families behind)

  filled_store : (new : List Run) → families_in_runs new ≡ before ++ (items ++ behind) → store_of_runs new ≡ with_families (store_of_runs runs) items
  filled_store new is =
      ap store_of is ∙ all_between lo has.end before items behind low has.within has.bound high ∙ ap (λ fs. with_families (store_of fs) items) (sym parts)

  -- that comes to have them
  module _ (other : Run) (same : other.lo ≡ gap.run.lo) (own : other.families ≡ gap.run.families ++ items) where
    set_is : set runs at other ≡ gap.front ++ other ∷ gap.back
    set_is = set_run runs gap.front gap.back gap.run other at gap.whole gap.count

    within_own : are_within gap.run.lo next_bound other.families ≡ true
    within_own =
        ap (are_within gap.run.lo next_bound) own
        ∙ within_append gap.run.lo lo next_bound gap.run.families items gap.low (let r = has.rise in let u = upto in omega (arith, r, u)) gap.below (within_wider lo has.end lo next_bound items has.within (omega arith) upto)

    pub joined_runs : AreRuns ROOT_END (set runs at other)
    joined_runs = subst (AreRuns ROOT_END) (sym set_is) (run_replaced gap.front gap.back gap.run other stands same within_own)

    pub joined_store : store_of_runs (set runs at other) ≡ with_families (store_of_runs runs) items
    joined_store =
        filled_store (set runs at other)
        (ap families_in_runs set_is ∙ families_append gap.front (other ∷ gap.back)
        ∙ ap (λ fs. families_in_runs gap.front ++ (fs ++ behind)) own
        ∙ ap (λ fs. families_in_runs gap.front ++ fs) (append_assoc gap.run.families items behind)
        ∙ sym (append_assoc (families_in_runs gap.front) gap.run.families (items ++ behind)))

  -- or has a run of them behind it
  module _ (other : Run) (same : other.lo ≡ lo) (own : other.families ≡ items) (new : List Run) (put : new ≡ put_in runs (at + 1) other) where
    new_is : new ≡ gap.front ++ gap.run ∷ other ∷ gap.back
    new_is = put ∙ ap (λ rs. put_in rs (at + 1) other) gap.whole ∙ put_behind_run gap.front gap.back gap.run other (at + 1) (let n = gap.count in omega (arith, n))

    pub followed_runs : AreRuns ROOT_END new
    followed_runs =
        subst (AreRuns ROOT_END) (sym new_is)
        (runs_append ROOT_END gap.front (gap.run ∷ other ∷ gap.back) stands.before (
          (let l = gap.low in omega (arith, same, l)),
          subst (λ n. are_within gap.run.lo n gap.run.families ≡ true) (sym same) gap.below,
          ((let r = has.rise in let u = upto in omega (arith, same, r, u)), (λ i. are_within (same i) next_bound (own i)) ∙ within_wider lo has.end lo next_bound items has.within (omega arith) upto, stands.after),
        ))

    pub followed_store : store_of_runs new ≡ with_families (store_of_runs runs) items
    followed_store =
        filled_store new
        (ap families_in_runs new_is ∙ families_append gap.front (gap.run ∷ other ∷ gap.back)
        ∙ ap (λ fs. families_in_runs gap.front ++ (gap.run.families ++ (fs ++ behind))) own
        ∙ sym (append_assoc (families_in_runs gap.front) gap.run.families (items ++ behind)))

-- rising families are within the first and behind the last
pub block_within : (families : List FamilyValue) (first last : FamilyValue) → roots_rise families ≡ true → Some first ≡ slice_get families 0 → Some last ≡ slice_get families (length families - 1)
    → (first.root ≤ last.root) × (are_within first.root (last.root + 1) families ≡ true)
block_within [] first last rising is ends = absurd (cc)
block_within (family ∷ families) first last rising is ends =
    let all = family ∷ families in
    let at = length families in
    let place : length all - 1 ≡ at = omega arith in
    let read : Some last ≡ Some (get_or all at last) = ends ∙ ap (slice_get all) place ∙ slice_get-get_or all at last (omega arith) in
    let end : last ≡ get_or all at last = cc in
    let start : first ≡ family = cc in
    let low = from_start family families first rising start in
    let high = upto_end all at last rising (omega arith) end in
    let whole = low at last (omega arith) in (
      (let own = ap (λ (f : FamilyValue). f.root) end in omega (arith, whole, own)),
      within_from_rise first.root (last.root + 1) all rising (λ k d inside. (low k d inside, (let h = high k d inside in omega (arith, h)))),
    )
  where
    from_start : (family : FamilyValue) (families : List FamilyValue) (first : FamilyValue) → roots_rise (family ∷ families) ≡ true → first ≡ family → (k : ℕ) (d : FamilyValue) → k < length (family ∷ families) → first.root ≤ (get_or (family ∷ families) k d).root
    from_start family families first rising start k d inside =
        let up = rising_upto (family ∷ families) 0 k d rising (omega arith) inside in
        let own = ap (λ (f : FamilyValue). f.root) start in
        omega (arith, up, own)

    upto_end : (all : List FamilyValue) (at : ℕ) (last : FamilyValue) → roots_rise all ≡ true → at + 1 ≡ length all → last ≡ get_or all at last → (k : ℕ) (d : FamilyValue) → k < length all → (get_or all k d).root ≤ last.root
    upto_end all at last rising long end k d inside =
        let up = rising_upto all k at d rising (omega (arith, inside, long)) (omega (arith, long)) in
        let same = ap (λ (f : FamilyValue). f.root) (get_or_default all at d last (omega (arith, long))) in
        let own = ap (λ (f : FamilyValue). f.root) end in
        omega (arith, up, same, own)
