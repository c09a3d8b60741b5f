-- Families that are taken out of runs, one run after another.
use Rattle.std.proofs.Common.{◌≡◌, ℕ, Bool, true, false, List, [], ◌∷◌, ◌++◌, length, get_or, take, drop, set, refl, sym, ap, ◌∙◌, subst, arith, append-nil, append_assoc, length-append, length-set}
use Rattle.std.specs.Prelude.{◌+◌, ◌<◌, ◌≤◌, ◌&&◌, nat_le, nat_lt, not, cond}
use Rattle.std.proofs.Math.Seq.{set-append_seam, take-take}
use Rattle.std.proofs.lemmas.List.{take-append-drop, take_more, take_more_set, drop-set-lt, drop-drop, get_or-drop}
use Rattle.std.proofs.lemmas.List.Elements.{filter-append}
use Rattle.sq_schema.specs.declared.root.TheConstants.{ROOT_END}
use Rattle.sq_schema.specs.Family.{FamilyValue}
use Rattle.sq_store.specs.InOrder.{are_within}
use Rattle.sq_store.specs.Listed.{roots_rise, store_of}
use Rattle.sq_store.specs.StoreValue.{families_between, without_between}
use Rattle.sq_store.specs.Run.{Run}
use Rattle.sq_store.specs.Runs.{families_in_runs, store_of_runs, between, outside, first_bound, AreRuns}
use Rattle.sq_store.proofs.Betweens.{between_is, outside_is, within_filter}
use Rattle.sq_store.proofs.InRuns.{families_append, runs_rise, run_at, read_at, run_stands, run_replaced}
use Rattle.sq_store.proofs.Fitting.{between_append, upto_run}
use Rattle.sq_store.proofs.Cutting.{each_rises}

pub outside_append : (lo hi : ℕ) (front back : List FamilyValue) → outside lo hi (front ++ back) ≡ outside lo hi front ++ outside lo hi back
outside_append lo hi front back = filter-append (λ (family : FamilyValue). not (nat_le lo family.root && nat_lt family.root hi)) front back

-- where there is none between the two numbers all are outside
pub all_outside : (lo hi : ℕ) (families : List FamilyValue) → between lo hi families ≡ [] → outside lo hi families ≡ families
all_outside lo hi [] none = refl
all_outside lo hi (family ∷ families) none = by_test (nat_le lo family.root && nat_lt family.root hi) (all_outside lo hi families) none
  where
    by_test : (b : Bool) → (between lo hi families ≡ [] → outside lo hi families ≡ families)
        → cond b (family ∷ between lo hi families) (between lo hi families) ≡ [] → cond (not b) (family ∷ outside lo hi families) (outside lo hi families) ≡ family ∷ families
    by_test true rest some = absurd (cc)
    by_test false rest none = ap (λ (fs : List FamilyValue). family ∷ fs) (rest none)

-- the runs so far have what is outside, and those behind them are as they were
module _ (old now : List Run) (lo hi at : ℕ) (are : AreRuns ROOT_END now)
    (left : families_in_runs (take at now) ≡ outside lo hi (families_in_runs (take at old)))
    (rest : drop at now ≡ drop at old) (count : length now ≡ length old) where
  -- the next run is as it was
  module _ (run : Run) (inside : at < length old) (is : run ≡ get_or now at run) where
    within_now : at < length now
    within_now = omega (arith, inside, count)

    pub was_run : run ≡ get_or old at run
    was_run =
        let here : at + 0 ≡ at = omega arith in
        is ∙ ap (λ n. get_or now n run) (sym here) ∙ sym (get_or-drop at now 0 run) ∙ ap (λ rs. get_or rs 0 run) rest ∙ get_or-drop at old 0 run ∙ ap (λ n. get_or old n run) here

    pub next_rises : roots_rise run.families ≡ true
    next_rises = ap (λ (r : Run). roots_rise r.families) is ∙ each_rises ROOT_END now are at run within_now

    pub room_before : (last taken room : ℕ) → at < last → taken + length (between lo hi (families_in_runs (take last old))) ≤ room → taken + length (between lo hi (families_in_runs (take at old))) + length (between lo hi run.families) ≤ room
    room_before last taken room more enough =
        let own = between lo hi run.families in
        let front = between lo hi (families_in_runs (take at old)) in
        let rest = drop (at + 1) (take last old) in
        let split : take last old ≡ take (at + 1) old ++ rest = sym (take-append-drop (at + 1) (take last old)) ∙ ap (λ rs. rs ++ rest) (take-take (at + 1) last old (omega (arith, more))) in
        let all = ap length (ap (λ rs. between lo hi (families_in_runs rs)) split ∙ ap (between lo hi) (families_append (take (at + 1) old) rest) ∙ between_append lo hi (families_in_runs (take (at + 1) old)) (families_in_runs rest)) in
        let upto = ap length (upto_run lo hi old at run inside was_run) in
        omega (arith, enough, all, upto, length-append (between lo hi (families_in_runs (take (at + 1) old))) (between lo hi (families_in_runs rest)), length-append front own)

    -- and once it is taken
    module _ (after : Run) (same : after.lo ≡ run.lo) (cleared : after.families ≡ outside lo hi run.families) where
      pub are_after : AreRuns ROOT_END (set now at after)
      are_after =
          let here = run_at now at within_now in
          let stands = run_stands now here.front here.back here.run are here.whole in
          let read : run ≡ here.run = is ∙ read_at now here.front here.back here.run at run here.whole here.count in
          let within : are_within here.run.lo (first_bound ROOT_END here.back) after.families ≡ true =
          ap (are_within here.run.lo (first_bound ROOT_END here.back)) (cleared ∙ ap (λ (r : Run). outside lo hi r.families) read)
          ∙ within_filter (λ (family : FamilyValue). not (nat_le lo family.root && nat_lt family.root hi)) here.run.lo (first_bound ROOT_END here.back) here.run.families stands.own in
          subst (AreRuns ROOT_END) (sym ((λ i. set (here.whole i) (sym here.count i) after) ∙ set-append_seam here.front here.run here.back after))
          (run_replaced here.front here.back here.run after stands (same ∙ ap (λ (r : Run). r.lo) read) within)

      pub left_after : families_in_runs (take (at + 1) (set now at after)) ≡ outside lo hi (families_in_runs (take (at + 1) old))
      left_after =
          let new : families_in_runs (take (at + 1) (set now at after)) ≡ families_in_runs (take at now) ++ after.families =
          ap families_in_runs (take_more_set now at after within_now) ∙ families_append (take at now) (after ∷ []) ∙ ap (λ fs. families_in_runs (take at now) ++ fs) (append-nil after.families) in
          let before : families_in_runs (take (at + 1) old) ≡ families_in_runs (take at old) ++ run.families =
          ap families_in_runs (take_more old at run inside ∙ ap (λ (r : Run). take at old ++ r ∷ []) (sym was_run)) ∙ families_append (take at old) (run ∷ []) ∙ ap (λ fs. families_in_runs (take at old) ++ fs) (append-nil run.families) in
          new ∙ (λ i. left i ++ cleared i) ∙ sym (ap (outside lo hi) before ∙ outside_append lo hi (families_in_runs (take at old)) run.families)

      pub rest_after : drop (at + 1) (set now at after) ≡ drop (at + 1) old
      rest_after = drop-set-lt (at + 1) now at after (omega arith) ∙ sym (drop-drop 1 at now) ∙ ap (drop 1) rest ∙ drop-drop 1 at old

      pub count_after : length (set now at after) ≡ length old
      count_after = omega (arith, length-set now at after, count)

    pub taken_after : (taken more : List FamilyValue) → more ≡ taken ++ between lo hi (families_in_runs (take at old)) → more ++ between lo hi run.families ≡ taken ++ between lo hi (families_in_runs (take (at + 1) old))
    taken_after taken more is_more =
        ap (λ fs. fs ++ between lo hi run.families) is_more ∙ append_assoc taken (between lo hi (families_in_runs (take at old))) (between lo hi run.families)
        ∙ ap (λ fs. taken ++ fs) (sym (upto_run lo hi old at run inside was_run))

  -- behind the last run that may have any
  module _ (none : between lo hi (families_in_runs (drop at old)) ≡ []) where
    whole : families_in_runs old ≡ families_in_runs (take at old) ++ families_in_runs (drop at old)
    whole = ap families_in_runs (sym (take-append-drop at old)) ∙ families_append (take at old) (drop at old)

    pub all_left : AreRuns ROOT_END old → store_of_runs now ≡ without_between (store_of_runs old) lo hi
    all_left were =
        let back = families_in_runs (drop at old) in
        let is : families_in_runs now ≡ outside lo hi (families_in_runs old) =
        ap families_in_runs (sym (take-append-drop at now)) ∙ families_append (take at now) (drop at now)
        ∙ (λ i. left i ++ families_in_runs (rest i))
        ∙ ap (λ fs. outside lo hi (families_in_runs (take at old)) ++ fs) (sym (all_outside lo hi back none))
        ∙ sym (ap (outside lo hi) whole ∙ outside_append lo hi (families_in_runs (take at old)) back) in
        ap store_of is ∙ sym (outside_is (families_in_runs old) lo hi (runs_rise ROOT_END old were)).same

-- the runs before the last one that may have any have all of them
pub all_upto : (runs : List Run) (lo hi at : ℕ) → AreRuns ROOT_END runs → between lo hi (families_in_runs (drop at runs)) ≡ [] → between lo hi (families_in_runs (take at runs)) ≡ families_between (store_of_runs runs) lo hi
all_upto runs lo hi at are none =
    sym
    (between_is (families_in_runs runs) lo hi (runs_rise ROOT_END runs are)
    ∙ ap (between lo hi) (ap families_in_runs (sym (take-append-drop at runs)) ∙ families_append (take at runs) (drop at runs))
    ∙ between_append lo hi (families_in_runs (take at runs)) (families_in_runs (drop at runs))
    ∙ ap (λ fs. between lo hi (families_in_runs (take at runs)) ++ fs) none
    ∙ append-nil (between lo hi (families_in_runs (take at runs))))
