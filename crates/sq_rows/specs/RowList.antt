-- The rows of one root key, and one row put or taken away.
use Rattle.std.specs.Prelude.{not, List, Option}
use Rattle.std.specs.Ordering.{eq_by_cmp}
use Rattle.std.specs.FinMap.Entries.{find, put, where_key}
use Rattle.sq_rows.specs.declared.row.RowKey.{RowKey}
use Rattle.sq_rows.specs.Values.{RowValue}
use Rattle.sq_rows.specs.Keys.{key_cmp}

-- the rows of one root key, by key in rising order
abbrev pub RowList : Type 0
RowList = List (RowKey × RowValue)

-- the key of the root row
abbrev pub root_key : RowKey
root_key = record { table = 0; sub = 0 }

-- the row of a key, if it has one
abbrev pub row_at : RowList → RowKey → Option RowValue
row_at rows key = find key_cmp key rows

-- the rows with this one put, new or in place of the present one
abbrev pub with_row : RowList → RowKey → RowValue → RowList
with_row rows key row = put key_cmp key row rows

-- the rows without the row of a key
abbrev pub without_row : RowList → RowKey → RowList
without_row rows key = where_key key_cmp (λ other. not (eq_by_cmp key_cmp key other)) rows
