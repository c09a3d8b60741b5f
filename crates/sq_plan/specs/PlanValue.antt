-- Partition plans, and the owner of a key.
use Rattle.std.specs.Prelude.{◌≡◌, ℕ, Bool, true, ◌==◌, ◌&&◌, ◌<◌, ◌≤◌, nat_lt, nat_le, List, [], ◌∷◌, length, filter, find, Option, Some, None}
use Rattle.std.specs.List.{list_all}
use Rattle.sq_schema.specs.declared.root.TheConstants.{ROOT_END}
use Rattle.sq_plan.specs.declared.plan.PlanRange.{PlanRange}
use Rattle.sq_plan.specs.declared.plan.TheConstants.{MAX_RANGES}
use Rattle.sq_plan.specs.declared.version.Version.{Version}
use Rattle.sq_plan.specs.Version.{parts_limit}

-- the version of the format, how many partitions there are, and which of them owns which root keys
pub record PlanValue : Type 0 where
  pub version : Version
  pub parts : ℕ
  pub ranges : List PlanRange

-- ranges that follow one another from this key to the end of the root keys, none of them empty
abbrev pub is_tiling : ℕ → List PlanRange → Bool
is_tiling lo [] = lo == ROOT_END
is_tiling lo (range ∷ ranges) = (range.lo == lo) && (nat_lt range.lo range.hi && is_tiling range.hi ranges)

-- there are partitions, not too many for the version; the ranges tile the root keys, and the
-- partitions own them
pub record IsPlan (plan : PlanValue) : Type 0 where
  pub some_part : 1 ≤ plan.parts
  pub few_parts : plan.parts ≤ parts_limit plan.version
  pub few_ranges : length plan.ranges ≤ MAX_RANGES
  pub tiling : is_tiling 0 plan.ranges ≡ true
  pub owners : list_all (λ range. nat_lt range.owner plan.parts) plan.ranges ≡ true

-- the range holds the key
abbrev pub holds : PlanRange → ℕ → Bool
holds range key = nat_le range.lo key && nat_lt key range.hi

-- the owner of a range that was found
abbrev pub found_owner : Option PlanRange → ℕ
found_owner None = 0
found_owner (Some range) = range.owner

-- the partition that owns a root key
abbrev pub owner : PlanValue → ℕ → ℕ
owner plan key = found_owner (find (λ range. holds range key) plan.ranges)

-- only this range holds the key, and its owner is the key's: one of the plan's partitions
pub record IsHolder (plan : PlanValue) (key : ℕ) (range : PlanRange) : Type 0 where
  pub alone : filter (λ range. holds range key) plan.ranges ≡ range ∷ []
  pub owns : owner plan key ≡ range.owner
  pub exists : range.owner < plan.parts
