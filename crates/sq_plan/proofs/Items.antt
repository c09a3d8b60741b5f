-- The items of `ranges`, one after another.
use Rattle.std.proofs.Common.{◌≡◌, ℕ, suc, ◌+◌, ◌<◌, ◌≤◌, ◌&&◌, eqb, ltb, Bool, true, false, List, [], ◌∷◌, length, get_or, drop, Option, Some, None, option_map, option_and_then, refl, sym, ap, ap₂, ◌∙◌}
use Rattle.std.proofs.lemmas.List.{at_drop_more, at_drop_all}
use Rattle.std.proofs.lemmas.Option.{same_Some}
use Rattle.std.specs.List.{list_all}
use Rattle.serde_json.specs.Data.{Items, no_items, item}
use Rattle.serde_json.specs.View.{items_view, view}
use Rattle.serde_json.specs.declared.value.Value.{Value}
use Rattle.sq_schema.specs.declared.root.TheConstants.{ROOT_END}
use Rattle.sq_plan.specs.declared.plan.PlanRange.{PlanRange}
use Rattle.sq_plan.specs.declared.read.Layout.{Layout}
use Rattle.sq_plan.specs.PlanValue.{is_tiling}
use Rattle.sq_plan.specs.PlanFields.{layout}
use Rattle.sq_plan.specs.Reading.{range_in, range_of_items, ranges_in}

-- the result of the items from here on, after those before
abbrev pub walk : ℕ → ℕ → Bool → Bool → Items → Option Layout
walk parts lo ordered owned no_items = Some (record { tiling = ordered && eqb lo ROOT_END; owned = owned })
walk parts lo ordered owned (item value values) =
    option_and_then (λ range. walk parts range.hi ((ordered && eqb range.lo lo) && ltb range.lo range.hi) (owned && ltb range.owner parts) values) (range_in value)

abbrev layout_from : ℕ → ℕ → Bool → Bool → List PlanRange → Layout
layout_from parts lo ordered owned ranges = record { tiling = ordered && is_tiling lo ranges; owned = owned && list_all (λ range. ltb range.owner parts) ranges }

and-and : (a b c : Bool) → ((a && b) && c) ≡ (a && (b && c))
and-and true b c = refl
and-and false b c = refl

and-true : (a : Bool) → a ≡ (a && true)
and-true true = refl
and-true false = refl

layout_more : (parts lo : ℕ) (ordered owned : Bool) (range : PlanRange) (rest : Option (List PlanRange))
    → option_map (layout_from parts range.hi ((ordered && eqb range.lo lo) && ltb range.lo range.hi) (owned && ltb range.owner parts)) rest
    ≡ option_map (layout_from parts lo ordered owned) (option_and_then (λ ranges. Some (range ∷ ranges)) rest)
layout_more parts lo ordered owned range None = refl
layout_more parts lo ordered owned range (Some ranges) =
    let a : (((ordered && eqb range.lo lo) && ltb range.lo range.hi) && is_tiling range.hi ranges) ≡ (ordered && (eqb range.lo lo && (ltb range.lo range.hi && is_tiling range.hi ranges))) =
    and-and (ordered && eqb range.lo lo) (ltb range.lo range.hi) (is_tiling range.hi ranges) ∙ and-and ordered (eqb range.lo lo) (ltb range.lo range.hi && is_tiling range.hi ranges) in
    let b = and-and owned (ltb range.owner parts) (list_all (λ range. ltb range.owner parts) ranges) in
    let F : Bool → Bool → Option Layout = λ x y. Some (record { tiling = x; owned = y }) in
    ap₂ F a b

walk_item : (parts lo : ℕ) (ordered owned : Bool) (values : Items)
    → ((lo : ℕ) (ordered owned : Bool) → walk parts lo ordered owned values ≡ option_map (layout_from parts lo ordered owned) (ranges_in values))
    → (o : Option PlanRange)
    → option_and_then (λ range. walk parts range.hi ((ordered && eqb range.lo lo) && ltb range.lo range.hi) (owned && ltb range.owner parts) values) o
    ≡ option_map (layout_from parts lo ordered owned) (option_and_then (λ range. option_and_then (λ ranges. Some (range ∷ ranges)) (ranges_in values)) o)
walk_item parts lo ordered owned values more None = refl
walk_item parts lo ordered owned values more (Some range) =
    more range.hi ((ordered && eqb range.lo lo) && ltb range.lo range.hi) (owned && ltb range.owner parts) ∙ layout_more parts lo ordered owned range (ranges_in values)

walk_is : (parts : ℕ) (values : Items) (lo : ℕ) (ordered owned : Bool) → walk parts lo ordered owned values ≡ option_map (layout_from parts lo ordered owned) (ranges_in values)
walk_is parts no_items lo ordered owned = ap (λ (b : Bool). let l : Layout = record { tiling = ordered && eqb lo ROOT_END; owned = b } in Some l) (and-true owned)
walk_is parts (item value values) lo ordered owned = walk_item parts lo ordered owned values (walk_is parts values) (range_in value)

-- all items
pub walk_all : (parts : ℕ) (values : Items) → walk parts 0 true true values ≡ option_map (layout parts) (ranges_in values)
walk_all parts values = walk_is parts values 0 true true

-- an item that is no range
pub walk_none : (parts lo : ℕ) (ordered owned : Bool) (values : List Value) (i : ℕ) (d : Value) → i < length values → range_in (view (get_or values i d)) ≡ None
    → walk parts lo ordered owned (items_view (drop i values)) ≡ None
walk_none parts lo ordered owned values i d h is =
    at_drop_more (λ vs. walk parts lo ordered owned (items_view vs)) values i d h ∙ ap (option_and_then (λ range. walk parts range.hi ((ordered && eqb range.lo lo) && ltb range.lo range.hi) (owned && ltb range.owner parts) (items_view (drop (i + 1) values)))) is

-- behind the last item
pub walk_end : (parts lo : ℕ) (ordered owned : Bool) (values : List Value) (i : ℕ) → length values ≤ i
    → walk parts lo ordered owned (items_view (drop i values)) ≡ Some (record { tiling = ordered && eqb lo ROOT_END; owned = owned })
walk_end parts lo ordered owned values i h = at_drop_all (λ vs. walk parts lo ordered owned (items_view vs)) values i h

length_one_more : (range : PlanRange) (n : ℕ) (o : Option (List PlanRange)) (ranges : List PlanRange) → ((rest : List PlanRange) → o ≡ Some rest → length rest ≡ n)
    → option_and_then (λ rest. Some (range ∷ rest)) o ≡ Some ranges → length ranges ≡ suc n
length_one_more range n None ranges more is = absurd cc
length_one_more range n (Some rest) ranges more is = sym (ap length (same_Some _ _ is)) ∙ ap suc (more rest refl)

length_at : (n : ℕ) (values : Items) (o : Option PlanRange) (ranges : List PlanRange) → ((rest : List PlanRange) → ranges_in values ≡ Some rest → length rest ≡ n)
    → option_and_then (λ range. option_and_then (λ rest. Some (range ∷ rest)) (ranges_in values)) o ≡ Some ranges → length ranges ≡ suc n
length_at n values None ranges more is = absurd cc
length_at n values (Some range) ranges more is = length_one_more range n (ranges_in values) ranges more is

-- as many ranges as items
pub length-ranges_in : (values : List Value) (ranges : List PlanRange) → ranges_in (items_view values) ≡ Some ranges → length ranges ≡ length values
length-ranges_in [] ranges is = sym (ap length (same_Some _ _ is))
length-ranges_in (value ∷ values) ranges is = length_at (length values) (items_view values) (range_in (view value)) ranges (length-ranges_in values) is

-- an array of another length is no range
pub range_of_items-other : (values : List Value) → (length values ≡ 3 → ⊥) → None ≡ range_of_items (items_view values)
range_of_items-other [] other = refl
range_of_items-other (a ∷ []) other = refl
range_of_items-other (a ∷ b ∷ []) other = refl
range_of_items-other (a ∷ b ∷ e ∷ []) other = absurd (other refl)
range_of_items-other (a ∷ b ∷ e ∷ f ∷ values) other = refl
