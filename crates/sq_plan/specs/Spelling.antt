-- How a plan is written in JSON: {"version":1,"partitions":P,"ranges":[[lo,hi,owner],..]}, in
-- version 2 with "stages":".."; the fields in any order, other fields among them.
use Rattle.std.specs.Prelude.{◌≡◌, ℕ, List, [], ◌∷◌, Some, codes}
use Rattle.serde_json.specs.Data.{Data, Items, Members, number, unsigned, string, array, no_items, item, object, member, no_members}
use Rattle.serde_json.specs.Find.{get}
use Rattle.sq_plan.specs.declared.plan.PlanRange.{PlanRange}
use Rattle.sq_plan.specs.declared.version.Version.{Version}
use Rattle.sq_plan.specs.declared.version.Version.TheVariants.{First, Second}
use Rattle.sq_plan.specs.Version.{version_number, stages_name}
use Rattle.sq_plan.specs.PlanValue.{PlanValue}

-- a whole number in JSON
abbrev pub number_data : ℕ → Data
number_data n = number (unsigned n)

-- a range: [lo,hi,owner]
abbrev pub range_data : PlanRange → Data
range_data range = array (item (number_data range.lo) (item (number_data range.hi) (item (number_data range.owner) no_items)))

-- ranges, one after another
abbrev pub ranges_data : List PlanRange → Items
ranges_data [] = no_items
ranges_data (range ∷ ranges) = item (range_data range) (ranges_data ranges)

-- the JSON value has the stages of the version
abbrev pub SpellsStages : Data → Version → Type 0
SpellsStages value First = Unit {0}
SpellsStages value (Second stages) = get (codes "stages") value ≡ Some (string (stages_name stages))

-- the JSON value has the fields of the plan
pub record Spells (value : Data) (plan : PlanValue) : Type 0 where
  pub version : get (codes "version") value ≡ Some (number_data (version_number plan.version))
  pub partitions : get (codes "partitions") value ≡ Some (number_data plan.parts)
  pub ranges : get (codes "ranges") value ≡ Some (array (ranges_data plan.ranges))
  pub stages : SpellsStages value plan.version

-- the fields of the version
abbrev pub version_data : Version → Members
version_data First = member (codes "version") (number_data 1) no_members
version_data (Second stages) = member (codes "stages") (string (stages_name stages)) (member (codes "version") (number_data 2) no_members)

-- the JSON value with only the fields of the plan
abbrev pub plan_data : PlanValue → Data
plan_data plan =
    object (
    member (codes "partitions") (number_data plan.parts)
    (member (codes "ranges") (array (ranges_data plan.ranges)) (version_data plan.version))
    )
