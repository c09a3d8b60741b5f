-- The sizes in bytes of rows in their family.
use Rattle.std.specs.Prelude.{ℕ, ◌+◌, length, sum_by}
use Rattle.sq_rows.specs.Values.{RowValue}
use Rattle.sq_rows.specs.RowList.{RowList}

-- the size in bytes of a row in its family
abbrev pub row_size : RowValue → ℕ
row_size row = 24 + length row.note

-- the size in bytes of a family with these rows
abbrev pub rows_size : RowList → ℕ
rows_size rows = 32 + sum_by (λ entry. row_size entry.1) rows
