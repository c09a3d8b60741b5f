-- Ranges that follow one another: where each of them begins and ends.
use Rattle.std.proofs.Common.{◌≡◌, ℕ, zero, suc, ◌<◌, ◌≤◌, ◌&&◌, true, eqb, ltb, List, [], ◌∷◌, length, get_or, arith}
use Rattle.std.proofs.lemmas.Bool.{and_parts, eqb-true, ltb-true}
use Rattle.sq_schema.specs.declared.root.TheConstants.{ROOT_END}
use Rattle.sq_plan.specs.declared.plan.PlanRange.{PlanRange}
use Rattle.sq_plan.specs.PlanValue.{is_tiling}

-- the first range, and the rest
pub record Follows (lo : ℕ) (range : PlanRange) (ranges : List PlanRange) : Type 0 where
  pub first : range.lo ≡ lo
  pub some : range.lo < range.hi
  pub rest : is_tiling range.hi ranges ≡ true

pub Follows-from_tiling : (lo : ℕ) (range : PlanRange) (ranges : List PlanRange) → is_tiling lo (range ∷ ranges) ≡ true → Follows lo range ranges
Follows-from_tiling lo range ranges tiling =
    let one = and_parts (eqb range.lo lo) (ltb range.lo range.hi && is_tiling range.hi ranges) tiling in
    let two = and_parts (ltb range.lo range.hi) (is_tiling range.hi ranges) one.1 in
    record { first = eqb-true _ _ one.0; some = ltb-true _ _ two.0; rest = two.1 }

pub tiling-end : (lo : ℕ) → is_tiling lo [] ≡ true → lo ≡ ROOT_END
tiling-end lo tiling = eqb-true lo ROOT_END tiling

-- each range ends above where all of them begin
pub above : (lo : ℕ) (ranges : List PlanRange) (i : ℕ) (d : PlanRange) → is_tiling lo ranges ≡ true → i < length ranges → lo < (get_or ranges i d).hi
above lo [] i d tiling h = absurd (omega arith)
above lo (range ∷ ranges) zero d tiling h = let one = Follows-from_tiling lo range ranges tiling in omega arith
above lo (range ∷ ranges) (suc i) d tiling h =
    let one = Follows-from_tiling lo range ranges tiling in
    let more = above range.hi ranges i d one.rest (omega arith) in
    omega arith

pub ends_rise : (lo : ℕ) (ranges : List PlanRange) (i j : ℕ) (d : PlanRange) → is_tiling lo ranges ≡ true → i ≤ j → j < length ranges → (get_or ranges i d).hi ≤ (get_or ranges j d).hi
ends_rise lo [] i j d tiling le h = absurd (omega arith)
ends_rise lo (range ∷ ranges) zero zero d tiling le h = omega arith
ends_rise lo (range ∷ ranges) zero (suc j) d tiling le h =
    let one = Follows-from_tiling lo range ranges tiling in
    let more = above range.hi ranges j d one.rest (omega arith) in
    omega arith
ends_rise lo (range ∷ ranges) (suc i) zero d tiling le h = absurd (omega arith)
ends_rise lo (range ∷ ranges) (suc i) (suc j) d tiling le h =
    let one = Follows-from_tiling lo range ranges tiling in
    ends_rise range.hi ranges i j d one.rest (omega arith) (omega arith)

-- no range is empty, and none goes past the last key
pub within : (lo : ℕ) (ranges : List PlanRange) (i : ℕ) (d : PlanRange) → is_tiling lo ranges ≡ true → i < length ranges
    → (lo ≤ (get_or ranges i d).lo) × ((get_or ranges i d).lo < (get_or ranges i d).hi) × ((get_or ranges i d).hi ≤ ROOT_END)
within lo [] i d tiling h = absurd (omega arith)
within lo (range ∷ []) zero d tiling h =
    let one = Follows-from_tiling lo range [] tiling in
    let end = tiling-end range.hi one.rest in
    (omega arith, one.some, omega arith)
within lo (range ∷ next ∷ ranges) zero d tiling h =
    let one = Follows-from_tiling lo range (next ∷ ranges) tiling in
    let more = within range.hi (next ∷ ranges) 0 d one.rest (omega arith) in
    (omega arith, one.some, omega arith)
within lo (range ∷ ranges) (suc i) d tiling h =
    let one = Follows-from_tiling lo range ranges tiling in
    let more = within range.hi ranges i d one.rest (omega arith) in
    (omega arith, more.1, more.2)
