-- A row put under a new key, and a number added to the one of a row.
use Rattle.std.specs.Prelude.{◌≡◌, ℕ, ℤ, ◌+ℤ◌, IsSome, FitsSigned, Option, Some, None, Result, Ok, Err, slice_set}
use Rattle.std.specs.Int.{w64}
use Rattle.sq_rows.specs.declared.row.RowKey.{RowKey}
use Rattle.sq_rows.specs.declared.row.NotPut.{NotPut}
use Rattle.sq_rows.specs.declared.row.NotPut.TheVariants.{Repeated, Memory}
use Rattle.sq_rows.specs.declared.row.NotAdded.{NotAdded}
use Rattle.sq_rows.specs.declared.row.NotAdded.TheVariants.{Absent, Range}
use Rattle.sq_rows.specs.Values.{RowValue}
use Rattle.sq_rows.specs.RowList.{RowList, with_row}

-- the row that wasn't put is returned: its key had one, or else memory ran out
abbrev pub ComesBack : Option RowValue → RowValue → NotPut → Type 0
ComesBack had row (Repeated back) = IsSome had × (back ≡ row)
ComesBack had row (Memory back) = (had ≡ None) × (back ≡ row)

-- the row with this number
abbrev pub with_number : RowValue → ℤ → RowValue
with_number row number = record { number = number; note = row.note }

-- adding to the number of the entry at this place returns the sum, which the row then has; all
-- stays as it was if the sum exceeds an `i64`
abbrev pub AddsAt : RowList → ℕ → RowKey × RowValue → ℤ → RowList → Option ℤ → Type 0
AddsAt rows at entry by now (Some sum) = FitsSigned w64 sum × (sum ≡ entry.1.number +ℤ by) × (now ≡ slice_set rows at (entry.0, with_number entry.1 sum))
AddsAt rows at entry by now None = (FitsSigned w64 (entry.1.number +ℤ by) → ⊥) × (now ≡ rows)

-- adding to the number of the row of a key returns the sum, which the row then has, or all stays as
-- it was
abbrev pub AddsTo : RowList → RowKey → ℤ → Option RowValue → RowList → Result ℤ NotAdded → Type 0
AddsTo rows key by (Some row) now (Ok sum) = FitsSigned w64 sum × (sum ≡ row.number +ℤ by) × (now ≡ with_row rows key (with_number row sum))
AddsTo rows key by (Some row) now (Err Range) = (FitsSigned w64 (row.number +ℤ by) → ⊥) × (now ≡ rows)
AddsTo rows key by None now (Err Absent) = now ≡ rows
AddsTo rows key by (Some row) now (Err Absent) = ⊥
AddsTo rows key by None now (Ok sum) = ⊥
AddsTo rows key by None now (Err Range) = ⊥
