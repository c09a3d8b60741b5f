-- The rows of the families of stores, by root key.
use Rattle.std.specs.Prelude.{ℕ, ◌==◌, if◌then◌else◌, List, length, fold, Option, Some, None}
use Rattle.std.specs.FinMap.{get}
use Rattle.sq_gather.specs.Prelude.{RowList, RowTable, FamilyValue, rows_of, StoreValue}

-- the family's rows if it has any, else `rows`
abbrev pub rows_with : RowList → Option FamilyValue → RowList
rows_with rows None = rows
rows_with rows (Some family) = if length (rows_of family) == 0 then rows else rows_of family

-- the rows of `root`: those of `family` if it has this root key and has rows, else those in the
-- table
abbrev pub rows_beside : RowTable → FamilyValue → RowTable
rows_beside table family root = if family.root == root then rows_with (table root) (Some family) else table root

-- the rows of the root key's family in the last store where it has rows, else `rows`
abbrev pub rows_among : RowList → List StoreValue → ℕ → RowList
rows_among rows stores root = fold (λ so_far store. rows_with so_far (get store root)) rows stores
