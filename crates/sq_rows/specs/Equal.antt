-- When rows are equal.
use Rattle.std.specs.Prelude.{Bool, ◌&&◌, nat_eq}
use Rattle.std.specs.Ordering.{int_eq}
use Rattle.std.specs.Cmp.Lexicographic.{pointwise}
use Rattle.sq_rows.specs.declared.row.RowKey.{RowKey}
use Rattle.sq_rows.specs.Values.{RowValue}
use Rattle.sq_rows.specs.RowList.{RowList}

-- they have the same number and the same note
abbrev pub row_eq : RowValue → RowValue → Bool
row_eq row other = int_eq row.number other.number && pointwise nat_eq row.note other.note

abbrev pub row_key_eq : RowKey → RowKey → Bool
row_key_eq key other = nat_eq key.table other.table && nat_eq key.sub other.sub

-- they have the same keys, and the same row at each
abbrev pub rows_eq : RowList → RowList → Bool
rows_eq rows others = pointwise (λ entry other. row_key_eq entry.0 other.0 && row_eq entry.1 other.1) rows others
