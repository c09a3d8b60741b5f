-- The text of a plan: {"partitions":P,"ranges":[[lo,hi,owner],..],"version":1}, or with
-- "stages":"..","version":2 at its end; without white space.
use Rattle.std.specs.Prelude.{ℕ, List, ◌++◌, map, codes, decimal}
use Rattle.std.specs.List.{join_with_byte}
use Rattle.sq_plan.specs.declared.plan.PlanRange.{PlanRange}
use Rattle.sq_plan.specs.declared.version.Version.{Version}
use Rattle.sq_plan.specs.declared.version.Version.TheVariants.{First, Second}
use Rattle.sq_plan.specs.Version.{stages_name}
use Rattle.sq_plan.specs.PlanValue.{PlanValue}

-- a range: [lo,hi,owner]
abbrev pub range_text : PlanRange → List ℕ
range_text range = codes "[" ++ decimal range.lo ++ codes "," ++ decimal range.hi ++ codes "," ++ decimal range.owner ++ codes "]"

-- ranges, with a comma between two
abbrev pub ranges_text : List PlanRange → List ℕ
ranges_text ranges = join_with_byte 44 (map range_text ranges)

-- the version, and in the second before it the stages
abbrev pub version_text : Version → List ℕ
version_text First = codes "\"version\":1"
version_text (Second stages) = codes "\"stages\":\"" ++ stages_name stages ++ codes "\",\"version\":2"

-- the number of partitions, the ranges as the plan has them, and the version
abbrev pub plan_text : PlanValue → List ℕ
plan_text plan =
    codes "{\"partitions\":" ++ decimal plan.parts
    ++ codes ",\"ranges\":[" ++ ranges_text plan.ranges ++ codes "],"
    ++ version_text plan.version ++ codes "}"
