-- The rows of a database in memory.
use Rattle.std.specs.Prelude.{◌≡◌, [], Option, None, unwrap_or}
use Rattle.sq_rows.specs.declared.row.RowKey.{RowKey}
use Rattle.sq_rows.specs.Values.{RowValue}
use Rattle.sq_rows.specs.RowList.{RowList}
use Rattle.sq_schema.specs.declared.root_list.RootList.{RootList}
use Rattle.sq_schema.specs.declared.root_list.RootList.TheVariants.{Listed, Mapped}
use Rattle.sq_schema.specs.declared.root_list.NotExtended.{NotExtended}
use Rattle.sq_schema.specs.declared.root_list.NotExtended.TheVariants.{NoRows, Refused}
use Rattle.sq_schema.specs.Table.{TableValue, row_given_fault, RefusesBy}

-- the root keys with their rows
abbrev pub table_of : RootList → TableValue
table_of (Listed rows) = rows.items
table_of (Mapped rows) = rows.entries

-- the row that wasn't taken is returned: its root key had no rows, or these and the key refused it,
-- or else memory ran out
abbrev pub IsNotExtended : Option RowList → RowKey → RowValue → NotExtended → Type 0
IsNotExtended had key row (NoRows back) = (had ≡ None) × (back ≡ row)
IsNotExtended had key row (Refused fault back) = RefusesBy (row_given_fault (unwrap_or had []) key) fault × (back ≡ row)
