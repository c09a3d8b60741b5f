-- The opening rows of a database, by root key.
use Rattle.std.specs.Prelude.{◌≡◌, ℕ, Bool, true, ◌==◌, ◌&&◌, not, if◌then◌else◌, List, [], length, is_some, unwrap_or, Option, Some, None}
use Rattle.std.specs.List.{AllPass}
use Rattle.std.specs.Ordering.{nat_cmp}
use Rattle.std.specs.FinMap.Entries.{find, is_sorted}
use Rattle.sq_rows.specs.declared.row.RowKey.{RowKey}
use Rattle.sq_schema.specs.declared.fault.RowFault.{RowFault}
use Rattle.sq_schema.specs.declared.fault.RowFault.TheVariants.{RowRepeated, NoRootRow, Memory}
use Rattle.sq_rows.specs.Values.{RowValue}
use Rattle.sq_rows.specs.RowList.{RowList, root_key, row_at, with_row}
use Rattle.sq_schema.specs.Effect.{RowTable}
use Rattle.sq_rows.specs.Rows.{is_rooted}

-- the rows of the root keys that have some, by rising root key
abbrev pub TableValue : Type 0
TableValue = List (ℕ × RowList)

-- the rows of each root key; none if it isn't in the table
abbrev pub rows_in : TableValue → RowTable
rows_in table root = unwrap_or (find nat_cmp root table) []

-- some rows, with rows of other tables only under the root row
abbrev pub is_opening : RowList → Bool
is_opening rows = not (length rows == 0) && is_rooted rows

-- the root keys rise, and each has such rows
pub record IsTable (table : TableValue) : Type 0 where
  pub opening : AllPass (λ entry. is_opening entry.1) table
  pub rising : is_sorted nat_cmp table ≡ true

-- why an opening row is refused: its key was given already, or it isn't of the root table and the
-- root row wasn't given
abbrev pub row_given_fault : RowList → RowKey → Option RowFault
row_given_fault rows key =
    if is_some (row_at rows key)
    then Some RowRepeated
    else (if not (key.table == 0) && not (is_some (row_at rows root_key)) then Some NoRootRow else None)

-- a refusal is this one; if there is none, memory ran out
abbrev pub RefusesBy : Option RowFault → RowFault → Type 0
RefusesBy fault RowRepeated = fault ≡ Some RowRepeated
RefusesBy fault NoRootRow = fault ≡ Some NoRootRow
RefusesBy fault Memory = fault ≡ None

-- the table with one more row
abbrev pub with_given : RowTable → ℕ → RowKey → RowValue → RowTable
with_given table root key row k = if root == k then with_row (table k) key row else table k

-- the table with these rows of a root key, in place of those that it had
abbrev pub with_rows : RowTable → ℕ → RowList → RowTable
with_rows table root rows k = if root == k then rows else table k
