-- The ranges of a plan, and which of them holds a key.
use Rattle.std.proofs.Common.{◌≡◌, ℕ, ◌<◌, ◌≤◌, true, false, List, [], ◌∷◌, ap, arith, ◌&&◌, nat_lt, nat_le, ◌==◌, find, Some}
use Rattle.std.proofs.lemmas.Bool.{and_parts, and_from, eqb-true, ltb-true, lt-ltb, le-leb, cond-true, cond-false}
use Rattle.std.proofs.lemmas.Bool.Decides.{nat_tests}
use Rattle.sq_plan.specs.declared.plan.PlanRange.{PlanRange}
use Rattle.sq_schema.specs.declared.root.TheConstants.{ROOT_END}
use Rattle.sq_plan.specs.PlanValue.{is_tiling, holds, found_owner}

-- the owner of a key by these ranges
abbrev pub owner_among : List PlanRange → ℕ → ℕ
owner_among ranges key = found_owner (find (λ range. holds range key) ranges)

pub holds_within : (range : PlanRange) (key : ℕ) → range.lo ≤ key → key < range.hi → holds range key ≡ true
holds_within range key low high = and_from (nat_le range.lo key) (nat_lt key range.hi) (le-leb range.lo key low) (lt-ltb key range.hi high)

pub holds_past : (range : PlanRange) (key : ℕ) → range.hi ≤ key → holds range key ≡ false
holds_past range key high = grind (arith, nat_tests)

-- the first of ranges, and what follows it
pub tiling_parts : (lo : ℕ) (range : PlanRange) (ranges : List PlanRange) → is_tiling lo (range ∷ ranges) ≡ true → (range.lo ≡ lo) × (range.lo < range.hi) × (is_tiling range.hi ranges ≡ true)
tiling_parts lo range ranges tiling =
    let first = and_parts (range.lo == lo) (nat_lt range.lo range.hi && is_tiling range.hi ranges) tiling in
    let second = and_parts (nat_lt range.lo range.hi) (is_tiling range.hi ranges) first.1 in
    (eqb-true range.lo lo first.0, ltb-true range.lo range.hi second.0, second.1)

-- ranges end where the keys end
pub tiling_bounds : (lo : ℕ) (ranges : List PlanRange) → is_tiling lo ranges ≡ true → lo ≤ ROOT_END
tiling_bounds lo [] tiling = let end = eqb-true lo ROOT_END tiling in omega arith
tiling_bounds lo (range ∷ ranges) tiling =
    let parts = tiling_parts lo range ranges tiling in
    let rest = tiling_bounds range.hi ranges parts.2 in
    omega arith

-- the first range owns its keys
pub owner_among-first : (range : PlanRange) (ranges : List PlanRange) (key : ℕ) → range.lo ≤ key → key < range.hi → owner_among (range ∷ ranges) key ≡ range.owner
owner_among-first range ranges key low high =
    ap found_owner (cond-true (holds range key) (Some range) (find (λ r. holds r key) ranges) (holds_within range key low high))

-- behind it the others do
pub owner_among-rest : (range : PlanRange) (ranges : List PlanRange) (key : ℕ) → range.hi ≤ key → owner_among (range ∷ ranges) key ≡ owner_among ranges key
owner_among-rest range ranges key high =
    ap found_owner (cond-false (holds range key) (Some range) (find (λ r. holds r key) ranges) (holds_past range key high))
