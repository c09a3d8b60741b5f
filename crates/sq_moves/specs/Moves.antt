-- What moves between two plans.
use Rattle.std.specs.Prelude.{◌≡◌, ◌≢◌, ℕ, Bool, ◌≤◌, ◌<◌, ◌==◌, ◌&&◌, not, nat_lt, min, max, if◌then◌else◌, List, [], ◌∷◌, map, filter, true, All}
use Rattle.std.specs.List.{list_any, flat_map}
use Rattle.sq_plan.specs.declared.plan.PlanRange.{PlanRange}
use Rattle.sq_schema.specs.declared.root.TheConstants.{ROOT_END}
use Rattle.sq_plan.specs.PlanValue.{PlanValue, owner}
use Rattle.sq_moves.specs.declared.recon.Range.{Range}
use Rattle.sq_moves.specs.ReconValue.{has_key}

-- a nonempty run of root keys that the source owns in the old plan and the destination in the new
pub record IsMovingRun (old new : PlanValue) (range : Range) : Type 0 where
  pub some : range.lo < range.hi
  pub within : range.hi ≤ ROOT_END
  pub moves : range.src ≢ range.dst
  pub owned : (key : ℕ) → range.lo ≤ key → key < range.hi → (owner old key ≡ range.src) × (owner new key ≡ range.dst)

-- two runs can't be joined: keys are between them, or they have different ends
abbrev pub AreUnjoinable : Range → Range → Type 0
AreUnjoinable one next = (one.hi ≤ next.lo) × (one.hi ≡ next.lo → one.src ≡ next.src → one.dst ≢ next.dst)

-- in key order, each apart from the next
abbrev pub AreMaximal : List Range → Type 0
AreMaximal [] = Unit {0}
AreMaximal (one ∷ []) = Unit {0}
AreMaximal (one ∷ next ∷ ranges) = AreUnjoinable one next × AreMaximal (next ∷ ranges)

-- the maximal runs of keys that have the same two owners, which differ, in key order
pub record AreMoves (old new : PlanValue) (ranges : List Range) : Type 0 where
  pub runs : All (IsMovingRun old new) ranges
  pub maximal : AreMaximal ranges
  pub each : (key : ℕ) → key < ROOT_END → owner old key ≢ owner new key → list_any (λ range. has_key range key) ranges ≡ true

-- these are the moves, and no other list is
pub record AreTheMoves (old new : PlanValue) (ranges : List Range) : Type 0 where
  pub moves : AreMoves old new ranges
  pub alone : (others : List Range) → AreMoves old new others → others ≡ ranges

-- the keys that a range of the old plan and one of the new have in common, with both owners
abbrev pub overlap : PlanRange → PlanRange → Range
overlap one other = record { lo = max one.lo other.lo; hi = min one.hi other.hi; src = one.owner; dst = other.owner }

-- it has keys, and they move
abbrev pub moves_keys : Range → Bool
moves_keys range = nat_lt range.lo range.hi && not (range.src == range.dst)

-- a range put before those that follow it; joined with the next if that continues it with the same
-- owners
abbrev pub joined_with : Range → List Range → List Range
joined_with range [] = range ∷ []
joined_with range (next ∷ ranges) =
    if (range.hi == next.lo) && ((range.src == next.src) && (range.dst == next.dst))
    then record { lo = range.lo; hi = next.hi; src = next.src; dst = next.dst } ∷ ranges
    else range ∷ next ∷ ranges

abbrev pub joined : List Range → List Range
joined [] = []
joined (range ∷ ranges) = joined_with range (joined ranges)

-- the moves, made of the overlaps of the two plans' ranges
unfoldable pub moves_of : PlanValue → PlanValue → List Range
moves_of old new = joined (flat_map (λ one. filter moves_keys (map (overlap one) new.ranges)) old.ranges)
