-- What is left of the open work of a link after a chunk of it was cut.
use Rattle.std.proofs.Common.{◌≡◌, ◌⊎◌, inl, inr, ⊎_elim, ℕ, true, false, ◌==◌, if◌then◌else◌, List, remove, slice_get, Contains, Some, refl, sym, ap, ◌∙◌, subst, true≢false}
use Rattle.std.specs.Prelude.{◌≢◌, slice_set}
use Rattle.std.proofs.lemmas.Bool.{cases_Bool}
use Rattle.std.proofs.lemmas.Bool.Decides.{eqb_tells}
use Rattle.std.proofs.lemmas.Option.{same_Some, get_or_from_slice_get}
use Rattle.sq_moves.proofs.Bools.{both_equal, equal-both}
use Rattle.sq_model.proofs.Lists.{Contains-slice_get, slice_get-Contains}
use Rattle.sq_exec.specs.Work.{WorkValue, no_work, work_from, work_after}
use Rattle.sq_node_model.specs.OutHolds.{is_work_on, NoneTwice}
use Rattle.sq_node_model.proofs.Members.{StoodAt, removed_stood, removed_once, removed_kept, set_stood, set_kept, set_new}

-- the nodes that work is on
pub on_node : (seg n : ℕ) (work : WorkValue) → is_work_on seg n work ≡ true → (work.seg ≡ seg) × (work.node ≡ n)
on_node seg n work on = both_equal work.seg seg work.node n on

pub on_node-from : (seg n : ℕ) (work : WorkValue) → work.seg ≡ seg → work.node ≡ n → is_work_on seg n work ≡ true
on_node-from seg n work = equal-both work.seg seg work.node n

-- the work on other nodes is left as it was, and the work itself continues at the chunk's end unless that is its own
pub record IsLeft (works left : List WorkValue) (work : WorkValue) (end : ℕ) : Type 0 where
  pub only : (other : WorkValue) → Contains left other → (Contains works other × (is_work_on work.seg work.node other ≡ false)) ⊎ ((end ≢ work.hi) × (work_from work end ≡ other))
  pub kept : (other : WorkValue) → Contains works other → is_work_on work.seg work.node other ≡ false → Contains left other
  pub next : end ≢ work.hi → Contains left (work_from work end)
  pub once : NoneTwice left

module _ (works : List WorkValue) (i end : ℕ) (work : WorkValue) (there : slice_get works i ≡ Some work) (once : NoneTwice works) where
  -- what is elsewhere is on another node
  other_node : (other : WorkValue) → StoodAt works i other → is_work_on work.seg work.node other ≡ false
  other_node other stood =
      elim (cases_Bool (is_work_on work.seg work.node other)) [
        | inl on ↦
            let same = on_node work.seg work.node other on in
            absurd (stood.apart (once stood.place i other work stood.there there same.0 same.1))
        | inr off ↦ off
      ]

  -- and what is on another node is elsewhere
  elsewhere : (other : WorkValue) → is_work_on work.seg work.node other ≡ false → (j : ℕ) → slice_get works j ≡ Some other → j ≢ i
  elsewhere other off j at =
      λ same.
      let is : other ≡ work = same_Some other work (sym at ∙ subst (λ k. slice_get works k ≡ Some work) (sym same) there) in
      true≢false (sym (on_node-from work.seg work.node other (ap (λ (w : WorkValue). w.seg) is) (ap (λ (w : WorkValue). w.node) is)) ∙ off)

  stood_among : (other : WorkValue) → StoodAt works i other → Contains works other × (is_work_on work.seg work.node other ≡ false)
  stood_among other stood = (Contains-slice_get works stood.place other stood.there, other_node other stood)

  ended : end ≡ work.hi → IsLeft works (remove works i) work end
  ended is_end = record {
    only = λ other has. inl (stood_among other (removed_stood works i has.0 other (slice_get-Contains (remove works i) other has)));
    kept = λ other has off. let at = slice_get-Contains works other has in removed_kept works i has.0 other at (elsewhere other off has.0 at);
    next = λ apart. absurd (apart is_end);
    once = λ j k one other at at' same_seg same_node. removed_once works (λ x y. (x.seg ≡ y.seg) × (x.node ≡ y.node)) i (λ j k x y at at' same. once j k x y at at' same.0 same.1) j k one other at at' (same_seg, same_node);
  }

  going_on : List WorkValue
  going_on = slice_set works i (work_from work end)

  went_on : end ≢ work.hi → IsLeft works going_on work end
  unfolding going_on
  went_on apart = record {
    only = λ other has.
        ⊎_elim (λ here. inr (apart, here.1)) (λ stood. inl (stood_among other (record { place = has.0; apart = stood.0; there = stood.1 })))
        (set_stood works i has.0 (work_from work end) other (slice_get-Contains going_on other has));
    kept = λ other has off.
        let at = slice_get-Contains works other has in
        Contains-slice_get going_on has.0 other (set_kept works i has.0 (work_from work end) other at (elsewhere other off has.0 at));
    next = λ _. Contains-slice_get going_on i (work_from work end) (set_new works i (work_from work end) work there);
    once = one_each;
  }
    where
      -- what is at a place now was there with the same node
      before : (j : ℕ) (now : WorkValue) → slice_get going_on j ≡ Some now → (was : WorkValue) × (slice_get works j ≡ Some was) × (was.seg ≡ now.seg) × (was.node ≡ now.node)
      before j now at =
          ⊎_elim
          (λ here. (work, subst (λ k. slice_get works k ≡ Some work) (sym here.0) there, ap (λ (w : WorkValue). w.seg) here.1, ap (λ (w : WorkValue). w.node) here.1))
          (λ stood. (now, stood.1, refl, refl))
          (set_stood works i j (work_from work end) now at)

      one_each : NoneTwice going_on
      one_each j k one other at at' same_seg same_node =
          let a = before j one at in
          let b = before k other at' in
          once j k a.0 b.0 a.1 b.1 (a.2 ∙ same_seg ∙ sym b.2) (a.3 ∙ same_node ∙ sym b.3)

  pub is_left : IsLeft works (work_after works i end) work end
  unfolding going_on
  is_left =
      let here = get_or_from_slice_get works i work no_work there in
      subst (λ (w : WorkValue). IsLeft works (if end == w.hi then remove works i else slice_set works i (work_from w end)) work end) (sym here)
      (⊎_elim
      (λ e. subst (λ b. IsLeft works (if b then remove works i else slice_set works i (work_from work end)) work end) (sym e.0) (ended e.1))
      (λ e. subst (λ b. IsLeft works (if b then remove works i else slice_set works i (work_from work end)) work end) (sym e.0) (went_on e.1))
      (eqb_tells end work.hi))
