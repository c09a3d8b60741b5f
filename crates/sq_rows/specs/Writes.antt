-- Writes of rows.
use Rattle.std.specs.Prelude.{ℕ, Bool, true, ◌==◌, ◌&&◌, List, fold, reverse, Option, Some, None}
use Rattle.std.specs.List.{find}
use Rattle.std.specs.Option.{option_map_or}
use Rattle.sq_rows.specs.declared.row.RowKey.{RowKey}
use Rattle.sq_rows.specs.Values.{RowValue}
use Rattle.sq_rows.specs.RowList.{RowList, with_row, without_row}
use Rattle.sq_rows.specs.Sizes.{row_size}
use Rattle.sq_rows.specs.Rows.{is_entry}

-- the row that a key is to have, or none
abbrev pub Write : Type 0
Write = RowKey × Option RowValue

-- the rows after a write
abbrev pub with_write : RowList → RowKey → Option RowValue → RowList
with_write rows key (Some row) = with_row rows key row
with_write rows key None = without_row rows key

-- the rows after these writes, in their order
abbrev pub with_writes : RowList → List Write → RowList
with_writes rows writes = fold (λ now write. with_write now write.0 write.1) rows writes

-- the last of these writes that is of this key
abbrev pub last_write : List Write → RowKey → Option Write
last_write writes key = find (λ write. (write.0.table == key.table) && (write.0.sub == key.sub)) (reverse writes)

-- a row that is written under this key is sound
abbrev pub is_sound : RowKey → Option RowValue → Bool
is_sound key None = true
is_sound key (Some row) = is_entry (key, row)

-- what the write puts is sound
abbrev pub is_write : Write → Bool
is_write write = is_sound write.0 write.1

-- how many rows this is, 0 or 1
abbrev pub count_of_row : Option RowValue → ℕ
count_of_row row = option_map_or (λ row. 1) row 0

-- its size
abbrev pub size_of_row : Option RowValue → ℕ
size_of_row row = option_map_or row_size row 0
