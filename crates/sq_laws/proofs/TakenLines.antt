-- A row's line at the front of an input, and its row taken into a table.
use Rattle.std.proofs.Common.{◌≡◌, ℕ, suc, ◌+◌, ◌-◌, ◌<◌, ◌≤◌, ◌==◌, Bool, true, false, not, List, [], ◌∷◌, ◌++◌, length, refl, ap, ◌∙◌, append_assoc, arith}
use Rattle.std.specs.Prelude.{if◌then◌else◌, nat_lt, nat_eq, Option, Some, None, Result, Ok, codes}
use Rattle.std.specs.List.{All, starts_with, join_with_byte}
use Rattle.std.specs.Option.{option_map, option_or}
use Rattle.std.proofs.lemmas.Bool.{le-ltb, lt-ltb}
use Rattle.std.proofs.lemmas.Bool.Decides.{nat_tests}
use Rattle.std.proofs.lemmas.List.Splits.{slice_split_at, length-slice_split}
use Rattle.std.proofs.lemmas.List.Elements.{All-cons}
use Rattle.sq_rows.specs.declared.row.RowKey.{RowKey}
use Rattle.sq_rows.specs.Values.{RowValue}
use Rattle.sq_schema.specs.Chain.{◌>>=◌}
use Rattle.sq_schema.specs.Effect.{RowTable}
use Rattle.sq_schema.specs.Refusals.{row_fault}
use Rattle.sq_schema.specs.Table.{row_given_fault, with_given}
use Rattle.sq_schema.specs.declared.fault.RowFault.{RowFault}
use Rattle.sq_schema.specs.declared.fault.TxnFault.{TxnFault}
use Rattle.sq_schema.specs.declared.fault.TxnFault.TheVariants.{BadRoot}
use Rattle.sq_schema.specs.declared.root.TheConstants.{ROOT_END}
use Rattle.sq_moves.specs.declared.opening_fault.OpeningFault.{OpeningFault}
use Rattle.sq_moves.specs.declared.opening_fault.OpeningFault.TheVariants as opening
use Rattle.sq_moves.specs.OpeningFaults.{of_row}
use Rattle.sq_moves.specs.Given.{GivenValue, with_one}
use Rattle.sq_moves.specs.Refused.{shape_fault, given_fault}
use Rattle.sq_text.specs.declared.buffer.TheConstants.{MAX_UNENDED}
use Rattle.sq_text.specs.Pieces.{PieceValue, InputEnd, Line, Endless, TooMany, cut_at_ends, next_line_number, pieces_of, pieces_in, next_begins}
use Rattle.sq_text.specs.declared.input_fault.InputFault.{InputFault}
use Rattle.sq_text.specs.declared.located.InputLine.TheVariants as line
use Rattle.sq_text.specs.declared.located.LocatedFault.{LocatedFault}
use Rattle.sq_text.specs.declared.step.TheConstants.{MAX_LINE}
use Rattle.sq_text.specs.Located.{at_line}
use Rattle.sq_text.specs.Header.{given_of, line_as, unless_faulty, row_taken, rows_taken}
use Rattle.sq_text.proofs.HeaderRun.{short_line}
use Rattle.sq_results.specs.RowLines.{row_line}
use Rattle.sq_laws.specs.Fit.{IsFitRow}
use Rattle.sq_laws.proofs.LineWords.{IsLineWord, row_words, given_row, all_words, row_is_read, unended, line_length}

-- pieces

next_piece : (end : InputEnd) (left : ℕ) (bytes : List ℕ) (parts : List (List ℕ)) → 0 < length parts → length bytes ≤ MAX_UNENDED → pieces_of end (suc left) (bytes ∷ parts) ≡ Line (next_line_number (suc left)) bytes ∷ pieces_of end left parts
next_piece end left bytes [] some short = absurd (omega arith)
next_piece end left bytes (part ∷ parts) some short =
    let number = next_line_number (suc left) in
    let others = pieces_of end (suc left - 1) (part ∷ parts) in
    let more : (suc left == 0) ≡ false = grind (arith, nat_tests) in
    let less : suc left - 1 ≡ left = omega arith in
    ap (λ (none : Bool). if none then TooMany ∷ [] else if nat_lt MAX_UNENDED (length bytes) then Endless number bytes ∷ [] else Line number bytes ∷ others) more
    ∙ ap (λ (long : Bool). if long then Endless number bytes ∷ [] else Line number bytes ∷ others) (le-ltb MAX_UNENDED (length bytes) short)
    ∙ ap (λ (n : ℕ). Line number bytes ∷ pieces_of end n (part ∷ parts)) less

cut_line : (bytes more : List ℕ) → All (λ byte. (byte == 10) ≡ false) bytes → cut_at_ends ((bytes ++ 10 ∷ []) ++ more) ≡ bytes ∷ cut_at_ends more
cut_line bytes more plain = ap cut_at_ends (append_assoc bytes (10 ∷ []) more) ∙ slice_split_at (λ byte. byte == 10) bytes 10 more plain refl

some_part : (bytes : List ℕ) → 0 < length (cut_at_ends bytes)
some_part bytes = omega (arith, length-slice_split (λ byte. byte == 10) bytes)

-- a line with its end is the next piece
line_piece : (end : InputEnd) (left : ℕ) (bytes more : List ℕ) → All (λ byte. (byte == 10) ≡ false) bytes → length bytes ≤ MAX_UNENDED → pieces_in end (suc left) ((bytes ++ 10 ∷ []) ++ more) ≡ Line (next_line_number (suc left)) bytes ∷ pieces_in end left more
line_piece end left bytes more plain short = ap (pieces_of end (suc left)) (cut_line bytes more plain) ∙ next_piece end left bytes (cut_at_ends more) (some_part more) short

-- rows

-- pieces are taken on top of a table, whatever the number of the first row is
pub record GoesOn (tables : ℕ) (table : RowTable) (pieces : List PieceValue) (now : RowTable) (left : List PieceValue) : Type 0 where
  pub from : (at : ℕ) → (after : ℕ) × (rows_taken tables table at pieces ≡ rows_taken tables now after left)

pub stands : (tables : ℕ) (table : RowTable) (pieces left : List PieceValue) → pieces ≡ left → GoesOn tables table pieces table left
stands tables table pieces left same = record { from = λ at. (at, ap (λ (ps : List PieceValue). rows_taken tables table at ps) same) }

pub goes_twice : (tables : ℕ) (table mid now : RowTable) (pieces others left : List PieceValue) → GoesOn tables table pieces mid others → GoesOn tables mid others now left → GoesOn tables table pieces now left
goes_twice tables table mid now pieces others left one other =
    record {
      from = λ at.
          let first = one.from at in
          let second = other.from first.0 in
          (second.0, first.1 ∙ second.1);
    }

-- the reading stops in front of a piece that is no row's line
pub stops : (tables : ℕ) (table : RowTable) (at : ℕ) (left : List PieceValue) → next_begins (codes "row ") left ≡ false → rows_taken tables table at left ≡ Ok (table, left)
stops tables table at [] other = refl
stops tables table at (piece ∷ pieces) other =
    ap (λ (begins : Bool). if begins then (row_taken tables table at (piece ∷ pieces) >>= (λ taken. rows_taken tables taken.0 (at + 1) pieces)) else Ok (table, piece ∷ pieces)) other

abbrev row_behind : Result (List ℕ × List PieceValue) InputFault → Result (GivenValue × List PieceValue) InputFault
row_behind next = next >>= (λ line. given_of line.0 >>= (λ value. Ok (value, line.1)))

abbrev row_before : List PieceValue → Result GivenValue InputFault → Result (GivenValue × List PieceValue) InputFault
row_before left given = given >>= (λ value. Ok (value, left))

abbrev taken_on : ℕ → RowTable → ℕ → Result (GivenValue × List PieceValue) InputFault → Result (RowTable × List PieceValue) LocatedFault
taken_on tables table at row = at_line (line.Row at) row >>= (λ taken. unless_faulty (given_fault tables table at taken.0) (with_one table taken.0, taken.1))

abbrev rows_behind : ℕ → ℕ → List PieceValue → Result (RowTable × List PieceValue) LocatedFault → Result (RowTable × List PieceValue) LocatedFault
rows_behind tables at pieces taken = taken >>= (λ row. rows_taken tables row.0 (at + 1) pieces)

-- a row's line is taken
line_taken : (tables : ℕ) (table : RowTable) (at number : ℕ) (bytes : List ℕ) (given : GivenValue) (others : List PieceValue) → starts_with nat_eq bytes (codes "row ") ≡ true → length bytes ≤ MAX_LINE → given_of bytes ≡ Ok given → given_fault tables table at given ≡ None
    → rows_taken tables table at (Line number bytes ∷ others) ≡ rows_taken tables (with_one table given) (at + 1) others
line_taken tables table at number bytes given others begins short is none =
    let pieces = Line number bytes ∷ others in
    let read : line_as given_of pieces ≡ Ok (given, others) = ap row_behind (short_line number bytes others short) ∙ ap (row_before others) is in
    let taken : row_taken tables table at pieces ≡ Ok (with_one table given, others) =
    ap (taken_on tables table at) read ∙ ap (λ (fault : Option OpeningFault). unless_faulty fault (with_one table given, others)) none in
    ap (λ (row : Bool). if row then rows_behind tables at others (row_taken tables table at pieces) else Ok (table, pieces)) begins
    ∙ ap (rows_behind tables at others) taken

-- a row that a schema takes, and that a table has place for, has no fault
no_fault : (tables : ℕ) (table : RowTable) (at root : ℕ) (entry : RowKey × RowValue) → root < ROOT_END → row_fault tables entry.0 entry.1 ≡ None → row_given_fault (table root) entry.0 ≡ None → given_fault tables table at (given_row root entry) ≡ None
no_fault tables table at root entry below fit free =
    let shape : shape_fault tables (given_row root entry) ≡ None =
    ap (λ (within : Bool). if not within then Some BadRoot else row_fault tables entry.0 entry.1) (lt-ltb root ROOT_END below) ∙ fit in
    ap (λ (fault : Option TxnFault). option_or (option_map (opening.Row at) fault) (option_map (of_row at) (row_given_fault (table root) entry.0))) shape
    ∙ ap (λ (fault : Option RowFault). option_map (of_row at) fault) free

-- a row at the front of an input is taken into a table that has place for it
pub row_goes_on : (tables : ℕ) (table : RowTable) (root : ℕ) (entry : RowKey × RowValue) (end : InputEnd) (left : ℕ) (rest : List ℕ) → root < ROOT_END → IsFitRow tables entry → row_given_fault (table root) entry.0 ≡ None
    → GoesOn tables table (pieces_in end (suc left) (row_line root entry ++ rest)) (with_given table root entry.0 entry.1) (pieces_in end left rest)
row_goes_on tables table root entry end left rest below fit free =
    let bytes = join_with_byte 32 (codes "row" ∷ row_words root entry) in
    let first : IsLineWord (codes "row") = record { solid = refl; short = omega arith } in
    let words = All-cons IsLineWord (codes "row") (row_words root entry) first (all_words tables root entry below fit) in
    let long = line_length (codes "row") (row_words root entry) words in
    let piece = line_piece end left bytes rest (unended (codes "row") (row_words root entry) words) (omega (arith, long)) in
    let short : length bytes ≤ MAX_LINE = omega (arith, long) in
    record {
      from = λ at. (
        at + 1,
        ap (λ (pieces : List PieceValue). rows_taken tables table at pieces) piece
            ∙ line_taken tables table at (next_line_number (suc left)) bytes (given_row root entry) (pieces_in end left rest) refl short (row_is_read tables root entry below fit) (no_fault tables table at root entry below fit.schema free),
      );
    }
