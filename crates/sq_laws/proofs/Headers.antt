-- A header has just the rows that its lines spell.
use Rattle.std.proofs.Common.{◌≡◌, ℕ, ◌+◌, Bool, true, false, if◌then◌else◌, List, [], ◌∷◌, ◌++◌, Option, Some, None, Result, Ok, Err, refl, sym, ap, ◌∙◌, subst}
use Rattle.std.specs.Prelude.{nat_eq, codes}
use Rattle.std.specs.List.{AllZip, starts_with}
use Rattle.sq_schema.specs.Chain.{◌>>=◌}
use Rattle.sq_schema.specs.Effect.{RowTable}
use Rattle.sq_moves.specs.declared.opening_fault.OpeningFault.{OpeningFault}
use Rattle.sq_moves.specs.Given.{GivenValue, no_rows, with_one}
use Rattle.sq_moves.specs.Refused.{given_fault}
use Rattle.sq_text.specs.Pieces.{PieceValue, bytes_of, next_begins}
use Rattle.sq_text.specs.declared.input_fault.InputFault.{InputFault}
use Rattle.sq_text.specs.declared.located.InputLine.{InputLine}
use Rattle.sq_text.specs.declared.located.InputLine.TheVariants as line
use Rattle.sq_text.specs.declared.located.LocatedFault.{LocatedFault}
use Rattle.sq_text.specs.Located.{at_line}
use Rattle.sq_text.specs.Header.{HeaderValue, line_in, next_line, line_as, given_of, first_lines, unless_faulty, plans_fault, header_of_first, plans_of, row_taken, rows_taken, header_of}
use Rattle.sq_laws.specs.Rows.{IsRowLine, HasRowsOfLines}
use Rattle.sq_laws.proofs.Rows.{with_rows_of, AreFree, free_of, has_just}

abbrev Pieces : Type 0
Pieces = List PieceValue

-- ---- what was found on the way

same_ok : {A E : Type 0} (x y : A) → ◌≡◌ {A = Result A E} (Ok x) (Ok y) → x ≡ y
same_ok x y e = cc

found : {A B E : Type 0} (r : Result A E) (next : A → Result B E) (y : B) → (r >>= next) ≡ Ok y → (x : A) × (r ≡ Ok x) × (next x ≡ Ok y)
found (Ok x) next y e = (x, refl, e)
found (Err fault) next y e = absurd cc

found_at : {A : Type 0} (at : InputLine) (r : Result A InputFault) (x : A) → at_line at r ≡ Ok x → r ≡ Ok x
found_at at (Ok y) x e = ap Ok (same_ok y x e)
found_at at (Err fault) x e = absurd cc

no_fault : {A : Type 0} (fault : Option OpeningFault) (x y : A) → unless_faulty fault x ≡ Ok y → (fault ≡ None) × (x ≡ y)
no_fault None x y e = (refl, same_ok x y e)
no_fault (Some fault) x y e = absurd cc

-- ---- one row

-- a line that spells a row, whose place is free
record Takes (tables : ℕ) (table : RowTable) (at : ℕ) (piece : PieceValue) (pieces : Pieces) (taken : RowTable × Pieces) : Type 0 where
  row : GivenValue
  spelled : IsRowLine piece row
  none : given_fault tables table at row ≡ None
  table_is : taken.0 ≡ with_one table row

takes : (tables : ℕ) (table : RowTable) (at : ℕ) (piece : PieceValue) (pieces : Pieces) (taken : RowTable × Pieces) → row_taken tables table at (piece ∷ pieces) ≡ Ok taken → Takes tables table at piece pieces taken
takes tables table at piece pieces taken e =
    let read = found (at_line (line.Row at) (line_as given_of (piece ∷ pieces))) (λ row. unless_faulty (given_fault tables table at row.0) (with_one table row.0, row.1)) taken e in
    let one = found (next_line (piece ∷ pieces)) (λ l. given_of l.0 >>= (λ value. Ok (value, l.1))) read.0 (found_at (line.Row at) (line_as given_of (piece ∷ pieces)) read.0 read.1) in
    let value = found (given_of one.0.0) (λ v. Ok (v, one.0.1)) read.0 one.2 in
    let bytes = found (line_in piece) (λ l. Ok (l, pieces)) one.0 one.1 in
    let free = no_fault (given_fault tables table at read.0.0) (with_one table read.0.0, read.0.1) taken read.2 in
    let its : value.0 ≡ read.0.0 = ap (λ (t : GivenValue × Pieces). t.0) (same_ok (value.0, one.0.1) read.0 value.2) in
    let line_is : bytes.0 ≡ one.0.0 = ap (λ (t : List ℕ × Pieces). t.0) (same_ok (bytes.0, pieces) one.0 bytes.2) in
    record {
      row = read.0.0;
      spelled = (bytes.0, bytes.1, ap given_of line_is ∙ value.1 ∙ ap Ok its);
      none = free.0;
      table_is = sym (ap (λ (t : RowTable × Pieces). t.0) free.1);
    }

-- ---- all rows

record Taken (tables : ℕ) (table : RowTable) (pieces : Pieces) (taken : RowTable × Pieces) : Type 0 where
  lines : Pieces
  are : pieces ≡ lines ++ taken.1
  stops : next_begins (codes "row ") taken.1 ≡ false
  rows : List GivenValue
  spelled : AllZip IsRowLine lines rows
  free : AreFree table rows
  table_is : taken.0 ≡ with_rows_of table rows

none_more : (tables : ℕ) (table : RowTable) (pieces : Pieces) (taken : RowTable × Pieces) → next_begins (codes "row ") pieces ≡ false → (table, pieces) ≡ taken → Taken tables table pieces taken
none_more tables table pieces taken ends is =
    let left : pieces ≡ taken.1 = ap (λ (t : RowTable × Pieces). t.1) is in
    record {
      lines = [];
      are = left;
      stops = ap (next_begins (codes "row ")) (sym left) ∙ ends;
      rows = [];
      spelled = tt;
      free = tt;
      table_is = sym (ap (λ (t : RowTable × Pieces). t.0) is);
    }

module _ (tables : ℕ) where
  -- a piece that begins as a row's line does, or not
  by_first : (table : RowTable) (at : ℕ) (piece : PieceValue) (pieces : Pieces) (taken : RowTable × Pieces)
      → ((t : RowTable) → rows_taken tables t (at + 1) pieces ≡ Ok taken → Taken tables t pieces taken)
      → (begins : Bool) → starts_with nat_eq (bytes_of piece) (codes "row ") ≡ begins
      → ◌≡◌ {A = Result (RowTable × Pieces) LocatedFault} (if begins then (row_taken tables table at (piece ∷ pieces) >>= (λ now. rows_taken tables now.0 (at + 1) pieces)) else Ok (table, piece ∷ pieces)) (Ok taken)
      → Taken tables table (piece ∷ pieces) taken
  by_first table at piece pieces taken others true begins e =
      let now = found (row_taken tables table at (piece ∷ pieces)) (λ t. rows_taken tables t.0 (at + 1) pieces) taken e in
      let one = takes tables table at piece pieces now.0 now.1 in
      let rest = others now.0.0 now.2 in
      record {
        lines = piece ∷ rest.lines;
        are = ap (λ (ps : Pieces). piece ∷ ps) rest.are;
        stops = rest.stops;
        rows = one.row ∷ rest.rows;
        spelled = (one.spelled, rest.spelled);
        free = (free_of tables table at one.row one.none, subst (λ (t : RowTable). AreFree t rest.rows) one.table_is rest.free);
        table_is = rest.table_is ∙ ap (λ (t : RowTable). with_rows_of t rest.rows) one.table_is;
      }
  by_first table at piece pieces taken others false ends e = none_more tables table (piece ∷ pieces) taken ends (same_ok (table, piece ∷ pieces) taken e)

  all_taken : (pieces : Pieces) (table : RowTable) (at : ℕ) (taken : RowTable × Pieces) → rows_taken tables table at pieces ≡ Ok taken → Taken tables table pieces taken
  all_taken [] table at taken e = none_more tables table [] taken refl (same_ok (table, []) taken e)
  all_taken (piece ∷ pieces) table at taken e =
      by_first table at piece pieces taken (λ t. all_taken pieces t (at + 1) taken) (starts_with nat_eq (bytes_of piece) (codes "row ")) refl e

-- ---- a header

-- the plans and the sizes come with a table without rows
plans_bare : (given : Pieces) (plans : HeaderValue × Pieces) → plans_of given ≡ Ok plans → plans.0.rows ≡ no_rows
plans_bare given plans e =
    let first = found (first_lines given) (λ f. unless_faulty (plans_fault f.0) (header_of_first f.0, f.1)) plans e in
    sym (ap (λ (p : HeaderValue × Pieces). p.0.rows) (no_fault (plans_fault first.0.0) (header_of_first first.0.0, first.0.1) plans first.2).1)

pub rows_of_lines : (tables : ℕ) (given left : Pieces) (header : HeaderValue) → header_of tables given ≡ Ok (header, left) → HasRowsOfLines given header left
rows_of_lines tables given left header e =
    let plans = found (plans_of given) (λ p. rows_taken tables p.0.rows 0 p.1 >>= (λ r. Ok (record p.0 { rows = r.0 }, r.1))) (header, left) e in
    let rows = found (rows_taken tables plans.0.0.rows 0 plans.0.1) (λ r. Ok (record plans.0.0 { rows = r.0 }, r.1)) (header, left) plans.2 in
    let is : (record plans.0.0 { rows = rows.0.0 }, rows.0.1) ≡ (header, left) = same_ok (record plans.0.0 { rows = rows.0.0 }, rows.0.1) (header, left) rows.2 in
    let table : rows.0.0 ≡ header.rows = ap (λ (h : HeaderValue × Pieces). h.0.rows) is in
    let rest : rows.0.1 ≡ left = ap (λ (h : HeaderValue × Pieces). h.1) is in
    let all = all_taken tables plans.0.1 plans.0.0.rows 0 rows.0 rows.1 in
    let bare = plans_bare given plans.0 plans.1 in
    let whole : header.rows ≡ with_rows_of no_rows all.rows = sym table ∙ all.table_is ∙ ap (λ (t : RowTable). with_rows_of t all.rows) bare in
    record {
      plans = plans.0.0;
      behind = plans.0.1;
      first = plans.1;
      same = sym (ap (λ (h : HeaderValue × Pieces). h.0) is) ∙ ap (λ (t : RowTable). record plans.0.0 { rows = t }) table;
      lines = all.lines;
      are = all.are ∙ ap (λ (ps : Pieces). all.lines ++ ps) rest;
      stops = ap (next_begins (codes "row ")) (sym rest) ∙ all.stops;
      rows = all.rows;
      spelled = all.spelled;
      has = has_just all.rows (subst (λ (t : RowTable). AreFree t all.rows) bare all.free) header.rows (λ root. ap (λ (t : RowTable). t root) whole);
    }
