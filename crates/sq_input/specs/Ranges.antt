-- The first range that departs from the form of a plan's ranges. Ranges are counted from 1.
use Rattle.std.specs.Prelude.{ℕ, ◌+◌, ◌==◌, nat_le, if◌then◌else◌, List, [], ◌∷◌, Option, Some, None}
use Rattle.sq_schema.specs.declared.root.TheConstants.{ROOT_END}
use Rattle.sq_plan.specs.declared.plan.PlanRange.{PlanRange}
use Rattle.sq_input.specs.declared.faulty_plans.PlanFlaw.{PlanFlaw}
use Rattle.sq_input.specs.declared.faulty_plans.PlanFlaw.TheVariants.{NoRange, Begins, Empty, EndsAt, Owner}

-- what is wrong with the last range, whose number is `at` and which ends at `end`
abbrev pub end_flaw : ℕ → ℕ → Option PlanFlaw
end_flaw at end = if at == 0 then Some NoRange else if end == ROOT_END then None else Some (EndsAt at end)

-- the first of these ranges that doesn't begin where the one before it ends, or is empty, after
-- `before` others that end at `end`; else what is wrong with the last one
abbrev pub gap : ℕ → ℕ → List PlanRange → Option PlanFlaw
gap before end [] = end_flaw before end
gap before end (range ∷ ranges) =
    if range.lo == end
    then if nat_le range.hi range.lo then Some (Empty (before + 1) range.lo range.hi) else gap (before + 1) range.hi ranges
    else Some (Begins (before + 1) range.lo end)

-- the first of these ranges whose owner isn't below the number of partitions, after `before` others
abbrev pub stranger : ℕ → ℕ → List PlanRange → Option PlanFlaw
stranger partitions before [] = None
stranger partitions before (range ∷ ranges) =
    if nat_le partitions range.owner then Some (Owner (before + 1) range.owner partitions) else stranger partitions (before + 1) ranges
