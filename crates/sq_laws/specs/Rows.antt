-- Which rows a table has, from the rows that it was given, and from the lines of a header.
use Rattle.std.specs.Prelude.{◌≡◌, ℕ, false, List, ◌++◌, codes, slice_get, Contains, Some, None, Ok}
use Rattle.std.specs.List.{AllZip}
use Rattle.sq_rows.specs.RowList.{row_at}
use Rattle.sq_schema.specs.Effect.{RowTable}
use Rattle.sq_plan.specs.PlanValue.{PlanValue}
use Rattle.sq_moves.specs.declared.opening.Config.{Config}
use Rattle.sq_moves.specs.declared.opening.GivenRow.{GivenRow}
use Rattle.sq_moves.specs.Given.{GivenValue, IsOpeningOf}
use Rattle.sq_moves.specs.Refused.{opening_fault}
use Rattle.sq_moves.specs.OpeningValue.{OpeningValue}
use Rattle.sq_text.specs.Pieces.{PieceValue, next_begins}
use Rattle.sq_text.specs.Header.{HeaderValue, line_in, given_of, plans_of}

-- the opening has these plans, sizes and rows, and no fault is found in them
abbrev pub OpensWithoutFault : ℕ → PlanValue → PlanValue → Config → List GivenRow → OpeningValue → Type 0
OpensWithoutFault tables old new config rows o =
    (opening_fault tables old new config rows ≡ None) × IsOpeningOf tables old new config rows o

-- the table has this row at its place
abbrev pub HasRow : RowTable → GivenValue → Type 0
HasRow table row = row_at (table row.root) row.key ≡ Some row.row

-- the table has exactly these rows, and no two of them have the same place
pub record HasJust (rows : List GivenValue) (table : RowTable) : Type 0 where
  pub each : (row : GivenValue) → Contains rows row → HasRow table row
  pub no_other : (row : GivenValue) → HasRow table row → Contains rows row
  pub once : (i j : ℕ) (one other : GivenValue) → slice_get rows i ≡ Some one → slice_get rows j ≡ Some other
      → one.root ≡ other.root → one.key ≡ other.key → i ≡ j

-- the piece is a line that spells this row
abbrev pub IsRowLine : PieceValue → GivenValue → Type 0
IsRowLine piece row = (bytes : List ℕ) × (line_in piece ≡ Ok bytes) × (given_of bytes ≡ Ok row)

-- after the plans and the sizes of an input come lines that spell the rows of this header, one per
-- line, up to the first piece that doesn't begin as a row's line does; that piece and all after it
-- are left
pub record HasRowsOfLines (given : List PieceValue) (header : HeaderValue) (left : List PieceValue) : Type 0 where
  pub plans : HeaderValue
  pub behind : List PieceValue
  pub first : plans_of given ≡ Ok (plans, behind)
  pub same : header ≡ record plans { rows = header.rows }
  pub lines : List PieceValue
  pub are : behind ≡ lines ++ left
  pub stops : next_begins (codes "row ") left ≡ false
  pub rows : List GivenValue
  pub spelled : AllZip IsRowLine lines rows
  pub has : HasJust rows header.rows
