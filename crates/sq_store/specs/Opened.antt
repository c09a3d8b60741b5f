-- The families that a partition opens with.
use Rattle.std.specs.Prelude.{◌≡◌, ℕ, ◌==◌, true, nat_le, List, [], map, filter}
use Rattle.sq_schema.specs.Effect.{RowList}
use Rattle.sq_schema.specs.Table.{TableValue}
use Rattle.sq_schema.specs.Family.{FamilyValue}
use Rattle.sq_plan.specs.declared.plan.PlanRange.{PlanRange}
use Rattle.sq_plan.specs.PlanValue.{PlanValue, holds, owner}

-- a family that starts from these rows of its root key
abbrev pub opened_family : ℕ × RowList → FamilyValue
opened_family entry = record { root = entry.0; base = entry.1; log = [] }

-- the root keys that a partition owns, with their rows
abbrev pub owned_entries : PlanValue → ℕ → TableValue → TableValue
owned_entries plan part table = filter (λ entry. owner plan entry.0 == part) table

-- the families of the root keys that a partition owns
abbrev pub opened_families : PlanValue → ℕ → TableValue → List FamilyValue
opened_families plan part table = map opened_family (owned_entries plan part table)

-- the same root keys, each without rows
abbrev pub blank : TableValue → TableValue
blank table = map (λ entry. (entry.0, [])) table

-- each root key that the range holds has the range's owner
abbrev pub IsOwned : PlanValue → PlanRange → Type 0
IsOwned plan range = (key : ℕ) → holds range key ≡ true → owner plan key ≡ range.owner

-- the entries are those of the table from some root key on
abbrev pub IsSuffix : TableValue → TableValue → Type 0
IsSuffix entries table = (from : ℕ) × (entries ≡ filter (λ entry. nat_le from entry.0) table)
