-- Reading a plan: the checks in their order, and the fault of the first that fails.
use Rattle.std.specs.Prelude.{◌≡◌, ℕ, Bool, ◌==◌, ◌&&◌, ◌||◌, nat_lt, nat_le, if◌then◌else◌, List, [], ◌∷◌, length, Option, Some, None, option_map, option_and_then, Result, Ok, Err, codes, ⊤}
use Rattle.std.specs.List.{list_all}
use Rattle.std.specs.Option.{ok_or}
use Rattle.std.specs.Str.{is_utf8}
use Rattle.serde_json.specs.Data.{Data, Items, no_items, item}
use Rattle.serde_json.specs.Read.{read}
use Rattle.serde_json.specs.Find.{get, as_number, as_array, as_str, as_u64}
use Rattle.sq_schema.specs.Chain.{◌>>=◌}
use Rattle.sq_plan.specs.declared.plan.PlanRange.{PlanRange}
use Rattle.sq_plan.specs.declared.plan.TheConstants.{MAX_PARTS, FIRST_MAX_PARTS, MAX_RANGES}
use Rattle.sq_plan.specs.declared.version.Version.{Version as PlanVersion}
use Rattle.sq_plan.specs.declared.version.Version.TheVariants.{First, Second}
use Rattle.sq_plan.specs.declared.fault.PlanFault.{PlanFault}
use Rattle.sq_plan.specs.declared.fault.PlanFault.TheVariants.{NotJson, Shape, Version, PartitionCount, RangeOrder, PartitionNumber, TooManyRanges, BadStages, Memory}
use Rattle.sq_plan.specs.Version.{stages_named}
use Rattle.sq_plan.specs.PlanValue.{PlanValue, is_tiling}

-- the number, if it is whole: not negative, below 2 ^ 64, and written without point and exponent
abbrev pub whole_in : Data → Option ℕ
whole_in value = option_and_then as_u64 (as_number value)

-- the whole number of a field
abbrev pub whole_at : List ℕ → Data → Option ℕ
whole_at name value = option_and_then whole_in (get name value)

-- three whole numbers
abbrev pub range_of_items : Items → Option PlanRange
range_of_items (item lo (item hi (item owner no_items))) =
    option_and_then
    (λ a. option_and_then (λ b. option_and_then (λ p. Some (record { lo = a; hi = b; owner = p })) (whole_in owner)) (whole_in hi))
    (whole_in lo)
range_of_items _ = None

-- a range, if the value is an array of three whole numbers
abbrev pub range_in : Data → Option PlanRange
range_in value = option_and_then range_of_items (as_array value)

-- the ranges, if each item is one
abbrev pub ranges_in : Items → Option (List PlanRange)
ranges_in no_items = Some []
ranges_in (item value values) =
    option_and_then (λ range. option_and_then (λ ranges. Some (range ∷ ranges)) (ranges_in values)) (range_in value)

-- the ranges of a field
abbrev pub ranges_at : List ℕ → Data → Option (List PlanRange)
ranges_at name value = option_and_then ranges_in (option_and_then as_array (get name value))

-- the text of a field
abbrev pub text_at : List ℕ → Data → Option (List ℕ)
text_at name value = option_and_then as_str (get name value)

-- the text of the field `stages`, which only the second version requires
abbrev pub stages_at : ℕ → Data → Option (Option (List ℕ))
stages_at version value = if version == 1 then Some None else option_map Some (text_at (codes "stages") value)

-- the version of a plan with these stages
abbrev pub version_by : Option (List ℕ) → Option PlanVersion
version_by None = Some First
version_by (Some text) = option_map Second (stages_named text)

abbrev pub parts_limit_by : Option (List ℕ) → ℕ
parts_limit_by None = FIRST_MAX_PARTS
parts_limit_by (Some text) = MAX_PARTS

-- the fault, unless the test holds
abbrev pub check : Bool → PlanFault → Result ⊤ PlanFault
check test fault = if test then Ok tt else Err fault

-- the plan with these stages, partitions and ranges, or the fault of the first check that fails
abbrev pub checked : Option (List ℕ) → ℕ → List PlanRange → Result PlanValue PlanFault
checked stages parts ranges = do
  are_some ← check (nat_le 1 parts && nat_le parts (parts_limit_by stages)) PartitionCount
  are_few ← check (nat_le (length ranges) MAX_RANGES) TooManyRanges
  follow ← check (is_tiling 0 ranges) RangeOrder
  exist ← check (list_all (λ range. nat_lt range.owner parts) ranges) PartitionNumber
  version ← ok_or (version_by stages) BadStages
  Ok (record { version = version; parts = parts; ranges = ranges })

-- the plan that a JSON value spells, or the fault of the first check that fails
abbrev pub plan_of : Data → Result PlanValue PlanFault
plan_of value = do
  version ← ok_or (whole_at (codes "version") value) Shape
  is_known ← check (version == 1 || version == 2) Version
  parts ← ok_or (whole_at (codes "partitions") value) Shape
  ranges ← ok_or (ranges_at (codes "ranges") value) Shape
  stages ← ok_or (stages_at version value) Shape
  checked stages parts ranges

-- the JSON value that the bytes spell, if they are UTF-8 and JSON
unfoldable pub json_of : List ℕ → Option Data
json_of bytes = if is_utf8 bytes then read bytes else None

-- the plan that the bytes spell, or the fault of the first check that fails
abbrev pub plan_in : List ℕ → Result PlanValue PlanFault
plan_in bytes = do
  value ← ok_or (json_of bytes) NotJson
  plan_of value

-- the wanted plan or fault was read, unless memory ran out
abbrev pub ReadsPlan : Result PlanValue PlanFault → Result PlanValue PlanFault → Type 0
ReadsPlan (Err Memory) wanted = ⊤
ReadsPlan read wanted = read ≡ wanted
