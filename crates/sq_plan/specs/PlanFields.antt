-- The fields of a plan in JSON, before the checks.
use Rattle.std.specs.Prelude.{◌≡◌, ℕ, nat_lt, List, Some, Option, option_map, Result, Ok, Err}
use Rattle.std.specs.List.{list_all}
use Rattle.serde_json.specs.Data.{Data}
use Rattle.serde_json.specs.View.{items_view}
use Rattle.sq_plan.specs.declared.plan.PlanRange.{PlanRange}
use Rattle.sq_plan.specs.declared.read.PlanFields.{PlanFields}
use Rattle.sq_plan.specs.declared.read.Layout.{Layout}
use Rattle.sq_plan.specs.declared.read.Heading.{Heading}
use Rattle.sq_plan.specs.declared.fault.PlanFault.{PlanFault}
use Rattle.sq_plan.specs.PlanValue.{PlanValue, is_tiling}
use Rattle.sq_plan.specs.Reading.{ranges_in, checked, plan_of}

-- whether the ranges follow one another, and whether each owner is one of this many partitions
abbrev pub layout : ℕ → List PlanRange → Layout
layout parts ranges = record { tiling = is_tiling 0 ranges; owned = list_all (λ range. nat_lt range.owner parts) ranges }

-- the fields have these ranges, with what was found about them
pub record HasRanges (fields : PlanFields) (ranges : List PlanRange) : Type 0 where
  pub items : ranges_in (items_view fields.items.now) ≡ Some ranges
  pub layout : fields.layout ≡ layout fields.parts ranges

-- the text of the field `stages`
abbrev pub stages_of : PlanFields → Option (List ℕ)
stages_of fields = option_map (λ text. text.now) fields.stages

-- the result of the checks of fields with these ranges: the plan, or the fault of the first check
-- that fails
abbrev pub checked_fields : PlanFields → List PlanRange → Result PlanValue PlanFault
checked_fields fields ranges = checked (stages_of fields) fields.parts ranges

-- the checks of these fields decide how the JSON value is read
abbrev pub AreFieldsOf : Data → PlanFields → Type 0
AreFieldsOf value fields = (ranges : List PlanRange) × HasRanges fields ranges × (plan_of value ≡ checked_fields fields ranges)

-- the plan with this heading and these ranges
abbrev pub plan_under : Heading → List PlanRange → PlanValue
plan_under heading ranges = record { version = heading.version; parts = heading.parts; ranges = ranges }

-- the checks of fields with these ranges result in the plan with this heading, or in this fault
abbrev pub ChecksTo : PlanFields → List PlanRange → Result Heading PlanFault → Type 0
ChecksTo fields ranges (Ok heading) = checked_fields fields ranges ≡ Ok (plan_under heading ranges)
ChecksTo fields ranges (Err fault) = checked_fields fields ranges ≡ Err fault
