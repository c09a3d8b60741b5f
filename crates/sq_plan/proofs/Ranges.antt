-- The ranges that items spell, while they are taken over one after another.
use Rattle.std.proofs.Common.{◌≡◌, ℕ, ◌+◌, ◌^◌, ◌<◌, ◌≤◌, ltb, true, List, [], ◌∷◌, ◌++◌, length, get_or, drop, Option, Some, None, option_map, option_and_then, IsSomeAnd, append_assoc, append-nil, refl, sym, ap, subst, ◌∙◌}
use Rattle.std.specs.List.{list_all}
use Rattle.std.proofs.lemmas.Bool.{and_parts, ltb-true}
use Rattle.std.proofs.lemmas.List.{at_drop_more, at_drop_all}
use Rattle.serde_json.specs.View.{items_view, view}
use Rattle.serde_json.specs.declared.value.Value.{Value}
use Rattle.sq_plan.specs.declared.plan.PlanRange.{PlanRange}
use Rattle.sq_plan.specs.Reading.{range_in, ranges_in}

-- the ranges with these before them
abbrev pub with_front : List PlanRange → Option (List PlanRange) → Option (List PlanRange)
with_front front rest = option_map (λ ranges. front ++ ranges) rest

-- each item is a range whose owner is the number of a partition
abbrev pub AreSmall : Option (List PlanRange) → Type 0
AreSmall found = IsSomeAnd found (λ ranges. list_all (λ range. ltb range.owner (2 ^ 8)) ranges ≡ true)

abbrev joined : Option PlanRange → Option (List PlanRange) → Option (List PlanRange)
joined first rest = option_and_then (λ range. option_and_then (λ ranges. Some (range ∷ ranges)) rest) first

front_more : (front : List PlanRange) (range : PlanRange) (rest : Option (List PlanRange)) → with_front front (joined (Some range) rest) ≡ with_front (front ++ range ∷ []) rest
front_more front range None = refl
front_more front range (Some ranges) = ap Some (sym (append_assoc front (range ∷ []) ranges))

-- the next item
pub record Next (items : List Value) (i : ℕ) (item : Value) : Type 0 where
  pub range : PlanRange
  pub is : range_in (view item) ≡ Some range
  pub small : range.owner < 2 ^ 8
  pub rest : AreSmall (ranges_in (items_view (drop (i + 1) items)))

next_of : (items : List Value) (i : ℕ) (item : Value) (first : Option PlanRange) (rest : Option (List PlanRange)) → range_in (view item) ≡ first → ranges_in (items_view (drop (i + 1) items)) ≡ rest → AreSmall (joined first rest) → Next items i item
next_of items i item None rest is others small = absurd small
next_of items i item (Some range) None is others small = absurd small
next_of items i item (Some range) (Some ranges) is others small =
    let parts = and_parts (ltb range.owner (2 ^ 8)) (list_all (λ range. ltb range.owner (2 ^ 8)) ranges) small in
    record { range = range; is = is; small = ltb-true _ _ parts.0; rest = subst AreSmall (sym others) parts.1 }

at_next : (items : List Value) (i : ℕ) (item : Value) → i < length items → item ≡ get_or items i item → ranges_in (items_view (drop i items)) ≡ joined (range_in (view item)) (ranges_in (items_view (drop (i + 1) items)))
at_next items i item h is =
    at_drop_more (λ values. ranges_in (items_view values)) items i item h ∙ ap (λ (value : Value). joined (range_in (view value)) (ranges_in (items_view (drop (i + 1) items)))) (sym is)

pub next : (items : List Value) (i : ℕ) (item : Value) → i < length items → item ≡ get_or items i item → AreSmall (ranges_in (items_view (drop i items))) → Next items i item
next items i item h is small = next_of items i item _ _ refl refl (subst AreSmall (at_next items i item h is) small)

pub with_front-next : (front : List PlanRange) (items : List Value) (i : ℕ) (item : Value) (range : PlanRange) → i < length items → item ≡ get_or items i item → range_in (view item) ≡ Some range
    → with_front (front ++ range ∷ []) (ranges_in (items_view (drop (i + 1) items))) ≡ with_front front (ranges_in (items_view (drop i items)))
with_front-next front items i item range h is found =
    sym (ap (with_front front) (at_next items i item h is ∙ ap (λ (first : Option PlanRange). joined first (ranges_in (items_view (drop (i + 1) items)))) found) ∙ front_more front range (ranges_in (items_view (drop (i + 1) items))))

-- behind the last item
pub with_front-end : (front : List PlanRange) (items : List Value) (i : ℕ) → length items ≤ i → with_front front (ranges_in (items_view (drop i items))) ≡ Some front
with_front-end front items i h = ap (with_front front) (at_drop_all (λ values. ranges_in (items_view values)) items i h) ∙ ap Some (append-nil front)

-- before the first
pub with_front-none : (front : List PlanRange) (found : Option (List PlanRange)) → front ≡ [] → with_front front found ≡ found
with_front-none front found is = ap (λ (ranges : List PlanRange). with_front ranges found) is ∙ none_before found
  where
    none_before : (found : Option (List PlanRange)) → with_front [] found ≡ found
    none_before None = refl
    none_before (Some ranges) = refl
