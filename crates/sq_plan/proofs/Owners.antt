-- One range holds each key, and its owner owns the key.
use Rattle.std.proofs.Common.{◌≡◌, ℕ, zero, suc, ◌<◌, ◌≤◌, Bool, true, false, leb, List, [], ◌∷◌, length, get_or, find, filter, Option, Some, None, refl, sym, ap, subst, inl, inr, ◌∙◌, arith}
use Rattle.std.specs.List.{list_all}
use Rattle.std.proofs.lemmas.Bool.{and_parts, cond-true, cond-false, cases_lt, cases_Bool, ltb-true, leb-true, leb-false, le-leb}
use Rattle.std.specs.List.Sorted.{IsPartitionedBy, IsPartitionPoint}
use Rattle.std.proofs.lemmas.Option.{same_Some}
use Rattle.std.proofs.lemmas.Bool.Decides.{nat_tests}
use Rattle.sq_schema.specs.declared.root.TheConstants.{ROOT_END}
use Rattle.sq_plan.specs.declared.plan.PlanRange.{PlanRange}
use Rattle.sq_plan.specs.PlanValue.{PlanValue, IsPlan, is_tiling, holds, owner, found_owner, IsHolder}
use Rattle.sq_plan.proofs.Tiling.{Follows-from_tiling, tiling-end, ends_rise, within}

pub holds_from : (range : PlanRange) (key : ℕ) → range.lo ≤ key → key < range.hi → holds range key ≡ true
holds_from range key low high = grind (arith, nat_tests)

pub ends_before : (range : PlanRange) (key : ℕ) → range.hi ≤ key → holds range key ≡ false
ends_before range key past = grind (arith, nat_tests)

pub begins_after : (range : PlanRange) (key : ℕ) → key < range.lo → holds range key ≡ false
begins_after range key before = grind (arith, nat_tests)

-- a range that holds a key, by its ends
pub ends_around : (range : PlanRange) (key : ℕ) → holds range key ≡ true → (range.lo ≤ key) × (key < range.hi)
ends_around range key held = grind (arith, nat_tests)

-- the key lies past the ranges before this place, and before the end of those from it on
pub record Splits (ranges : List PlanRange) (key i : ℕ) : Type 0 where
  pub before : (j : ℕ) (d : PlanRange) → j < i → (get_or ranges j d).hi ≤ key
  pub after : (j : ℕ) (d : PlanRange) → i ≤ j → j < length ranges → key < (get_or ranges j d).hi

-- the range at that place is the first that holds the key
pub find_at : (lo : ℕ) (ranges : List PlanRange) (key i : ℕ) (d : PlanRange) → is_tiling lo ranges ≡ true → lo ≤ key → key < ROOT_END → i ≤ length ranges → Splits ranges key i
    → (i < length ranges) × (find (λ range. holds range key) ranges ≡ Some (get_or ranges i d))
find_at lo [] key i d tiling low high le splits = let end = tiling-end lo tiling in absurd (omega arith)
find_at lo (range ∷ ranges) key zero d tiling low high le splits =
    let one = Follows-from_tiling lo range ranges tiling in
    let past : key < range.hi = splits.after 0 d (omega arith) (omega arith) in
    (omega arith, cond-true _ _ _ (holds_from range key (omega arith) past))
find_at lo (range ∷ ranges) key (suc i) d tiling low high le splits =
    let one = Follows-from_tiling lo range ranges tiling in
    let before : range.hi ≤ key = splits.before 0 d (omega arith) in
    let rest : Splits ranges key i = record { before = λ j e h. splits.before (suc j) e (omega arith); after = λ j e h k. splits.after (suc j) e (omega arith) (omega arith) } in
    let found = find_at range.hi ranges key i d one.rest before high (omega arith) rest in
    (omega arith, cond-false _ _ _ (ends_before range key before) ∙ found.1)

-- no range of a tiling holds a key before it
none_held : (lo : ℕ) (ranges : List PlanRange) (key : ℕ) → is_tiling lo ranges ≡ true → key < lo → filter (λ range. holds range key) ranges ≡ []
none_held lo [] key tiling before = refl
none_held lo (range ∷ ranges) key tiling before =
    let one = Follows-from_tiling lo range ranges tiling in
    cond-false _ _ _ (begins_after range key (omega arith)) ∙ none_held range.hi ranges key one.rest (omega arith)

-- what is found, for a key that a tiling reaches
pub found : (lo : ℕ) (ranges : List PlanRange) (key : ℕ) → is_tiling lo ranges ≡ true → lo ≤ key → key < ROOT_END
    → (range : PlanRange) × (filter (λ range. holds range key) ranges ≡ range ∷ []) × (find (λ range. holds range key) ranges ≡ Some range)
found lo [] key tiling low high = let end = tiling-end lo tiling in absurd (omega arith)
found lo (range ∷ ranges) key tiling low high =
    let one = Follows-from_tiling lo range ranges tiling in
    elim (cases_lt key range.hi) [
      | inl inside ↦
          let held : holds range key ≡ true = holds_from range key (omega arith) inside in
          (range, cond-true _ _ _ held ∙ ap (λ (rest : List PlanRange). range ∷ rest) (none_held range.hi ranges key one.rest inside), cond-true _ _ _ held)
      | inr past ↦
          let passed : holds range key ≡ false = ends_before range key past in
          let more = found range.hi ranges key one.rest past high in
          (more.0, cond-false _ _ _ passed ∙ more.1, cond-false _ _ _ passed ∙ more.2)
    ]

-- what passes a test that all of a list pass
list_all-find : (p q : PlanRange → Bool) (ranges : List PlanRange) (range : PlanRange) → list_all p ranges ≡ true → find q ranges ≡ Some range → p range ≡ true
list_all-find p q [] range all is = absurd cc
list_all-find p q (first ∷ ranges) range all is =
    let one = and_parts (p first) (list_all p ranges) all in
    elim (cases_Bool (q first)) [
      | inl passes ↦ subst (λ r. p r ≡ true) (same_Some _ _ (sym (cond-true _ _ _ passes) ∙ is)) one.0
      | inr fails ↦ list_all-find p q ranges range one.1 (sym (cond-false _ _ _ fails) ∙ is)
    ]

-- one range of a plan holds each key
pub held : (plan : PlanValue) (key : ℕ) → IsPlan plan → key < ROOT_END → (range : PlanRange) × IsHolder plan key range
held plan key is_plan high =
    let it = found 0 plan.ranges key is_plan.tiling (omega arith) high in
    let exists = list_all-find _ _ plan.ranges it.0 is_plan.owners it.2 in
    (it.0, record { alone = it.1; owns = ap found_owner it.2; exists = ltb-true _ _ exists })

-- each key has an owner among the partitions
pub owner_exists : (plan : PlanValue) (key : ℕ) → IsPlan plan → owner plan key < plan.parts
owner_exists plan key is_plan = owned_in (find (λ range. holds range key) plan.ranges) refl
  where
    owned_in : (o : Option PlanRange) → find (λ range. holds range key) plan.ranges ≡ o → found_owner o < plan.parts
    owned_in None is = omega (arith, is_plan.some_part)
    owned_in (Some range) is = ltb-true _ _ (list_all-find _ _ plan.ranges range is_plan.owners is)

-- a search by the ranges' ends comes out at the range that holds the key
pub find_at_point : (plan : PlanValue) (ranges : List PlanRange) (key i : ℕ) (d : PlanRange) → IsPlan plan → ranges ≡ plan.ranges → key < ROOT_END → i ≤ length ranges
    → (IsPartitionedBy (λ range. leb range.hi key) ranges → IsPartitionPoint (λ range. leb range.hi key ≡ true) (λ range. leb range.hi key ≡ false) ranges i)
    → (i < length plan.ranges) × (find (λ range. holds range key) plan.ranges ≡ Some (get_or plan.ranges i d))
find_at_point plan ranges key i d is_plan same high le clause =
    let tiling : is_tiling 0 ranges ≡ true = subst (λ rs. is_tiling 0 rs ≡ true) (sym same) is_plan.tiling in
    let parted : IsPartitionedBy (λ range. leb range.hi key) ranges = λ j k e below inside passed.
    let rise = ends_rise 0 ranges j k e tiling below inside in
    let past = leb-true _ _ passed in
    le-leb _ _ (omega arith) in
    let point = clause parted in
    let splits : Splits ranges key i = record { before = λ j e h. leb-true _ _ (point.0 j e (omega arith) h); after = λ j e h k. leb-false _ _ (point.1 j e h k) } in
    let P : List PlanRange → Type 0 = λ rs. (i < length rs) × (find (λ range. holds range key) rs ≡ Some (get_or rs i d)) in
    subst P same (find_at 0 ranges key i d tiling (omega arith) high le splits)

pub owner_found : (plan : PlanValue) (key : ℕ) (range : PlanRange) → IsPlan plan → find (λ range. holds range key) plan.ranges ≡ Some range → (range.owner ≡ owner plan key) × (range.owner < plan.parts)
owner_found plan key range is_plan is = (sym (ap found_owner is), ltb-true _ _ (list_all-find _ _ plan.ranges range is_plan.owners is))

cons_nil : (x : PlanRange) (xs : List PlanRange) → (x ∷ xs) ≡ [] → ⊥
cons_nil x xs is = cc

same_head : (x y : PlanRange) (xs ys : List PlanRange) → (x ∷ xs) ≡ (y ∷ ys) → x ≡ y
same_head x y xs ys is = cc

same_tail : (x y : PlanRange) (xs ys : List PlanRange) → (x ∷ xs) ≡ (y ∷ ys) → xs ≡ ys
same_tail x y xs ys is = cc

-- what passes is kept
kept : (test : PlanRange → Bool) (ranges : List PlanRange) (i : ℕ) (range : PlanRange) → i < length ranges → range ≡ get_or ranges i range → test range ≡ true → filter test ranges ≡ [] → ⊥
kept test [] i range h is passes none = omega arith
kept test (other ∷ ranges) zero range h is passes none =
    let here = cond-true (test other) (other ∷ filter test ranges) (filter test ranges) (ap test (sym is) ∙ passes) in
    cons_nil other _ (sym here ∙ none)
kept test (other ∷ ranges) (suc i) range h is passes none =
    elim (cases_Bool (test other)) [
      | inl also ↦ cons_nil other _ (sym (cond-true (test other) (other ∷ filter test ranges) (filter test ranges) also) ∙ none)
      | inr not_here ↦ kept test ranges i range (omega arith) is passes (sym (cond-false (test other) (other ∷ filter test ranges) (filter test ranges) not_here) ∙ none)
    ]

found_holds : (test : PlanRange → Bool) (ranges : List PlanRange) (i : ℕ) (range : PlanRange) → i < length ranges → range ≡ get_or ranges i range → test range ≡ true
    → (first : PlanRange) → filter test ranges ≡ first ∷ [] → range ≡ first
found_holds test [] i range h is passes first alone = absurd (omega arith)
found_holds test (other ∷ ranges) zero range h is passes first alone =
    let here = cond-true (test other) (other ∷ filter test ranges) (filter test ranges) (ap test (sym is) ∙ passes) in
    is ∙ same_head other first _ _ (sym here ∙ alone)
found_holds test (other ∷ ranges) (suc i) range h is passes first alone =
    elim (cases_Bool (test other)) [
      | inl also ↦
          let here = cond-true (test other) (other ∷ filter test ranges) (filter test ranges) also in
          absurd (kept test ranges i range (omega arith) is passes (same_tail other first _ _ (sym here ∙ alone)))
      | inr not_here ↦ found_holds test ranges i range (omega arith) is passes first (sym (cond-false (test other) (other ∷ filter test ranges) (filter test ranges) not_here) ∙ alone)
    ]

-- a range that holds a key is the one that does, and its owner owns the key
pub owner_held : (plan : PlanValue) (key i : ℕ) (range : PlanRange) → IsPlan plan → i < length plan.ranges → range ≡ get_or plan.ranges i range → holds range key ≡ true → owner plan key ≡ range.owner
owner_held plan key i range is_plan h is holding =
    let inside = within 0 plan.ranges i range is_plan.tiling h in
    let ends = ends_around range key holding in
    let below : key < ROOT_END = omega (arith, ap (λ (r : PlanRange). r.hi) is) in
    let it = held plan key is_plan below in
    it.1.owns ∙ ap (λ (r : PlanRange). r.owner) (sym (found_holds _ plan.ranges i range h is holding it.0 it.1.alone))
