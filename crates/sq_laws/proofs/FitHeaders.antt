-- The rows of a header fit.
use Rattle.std.proofs.Common.{◌≡◌, ℕ, ◌+◌, ◌<◌, ◌==◌, ◌&&◌, true, false, not, List, [], ◌∷◌, length, Option, Some, None, Result, Ok, Err, if◌then◌else◌, refl, sym, ap, subst, ◌∙◌, arith}
use Rattle.std.specs.Prelude.{◌^◌, nat_eq, nat_lt, nat_le, codes, option_map, ok_or, IfSome, IfOk}
use Rattle.std.specs.List.{starts_with}
use Rattle.std.proofs.lemmas.Bool.{and_from, eqb-true, ltb-true}
use Rattle.std.proofs.lemmas.Bool.Decides.{nat_tests}
use Rattle.std.proofs.lemmas.List.Elements.{All-nil}
use Rattle.sq_rows.specs.declared.row.RowKey.{RowKey}
use Rattle.sq_rows.specs.declared.row.TheConstants.{MAX_NOTE}
use Rattle.sq_rows.specs.RowList.{RowList, with_row}
use Rattle.sq_rows.specs.Values.{RowValue}
use Rattle.sq_rows.proofs.Kept.{All-with_row, is_sorted-with_row}
use Rattle.sq_schema.specs.declared.fault.TxnFault.TheVariants.{BadRoot}
use Rattle.sq_schema.specs.declared.root.TheConstants.{ROOT_END}
use Rattle.sq_schema.specs.Chain.{◌>>=◌}
use Rattle.sq_schema.specs.Effect.{RowTable}
use Rattle.sq_schema.specs.Refusals.{key_fault, note_fault, row_fault}
use Rattle.sq_schema.specs.Table.{row_given_fault}
use Rattle.sq_schema.proofs.Sound.{or_none}
use Rattle.sq_schema.proofs.Tables.{is_opening-with_row, is_rooted-opening}
use Rattle.sq_moves.specs.declared.opening_fault.OpeningFault.TheVariants.{Row}
use Rattle.sq_moves.specs.OpeningFaults.{of_row}
use Rattle.sq_moves.specs.Given.{GivenValue, no_rows, with_one}
use Rattle.sq_moves.specs.Refused.{shape_fault, given_fault}
use Rattle.sq_text.specs.Pieces.{PieceValue, bytes_of}
use Rattle.sq_text.specs.declared.input_fault.InputFault.{InputFault}
use Rattle.sq_text.specs.declared.input_fault.InputFault.TheVariants.{BadHeader}
use Rattle.sq_text.specs.declared.located.InputLine.{InputLine}
use Rattle.sq_text.specs.declared.located.InputLine.TheVariants as line
use Rattle.sq_text.specs.declared.located.LocatedFault.{LocatedFault}
use Rattle.sq_text.specs.Located.{at_line}
use Rattle.sq_text.specs.Words.{words_of}
use Rattle.sq_text.specs.HeaderFields.{given_in}
use Rattle.sq_text.specs.Header.{HeaderValue, next_line, line_as, behind, given_of, first_lines, unless_faulty, plans_fault, header_of_first, plans_of, row_taken, rows_taken, header_of}
use Rattle.sq_laws.specs.Fit.{IsFitRow, AreFitRows, IsFitTable}
use Rattle.sq_laws.proofs.Spelled.{InRange, IsSpelledRow, IsSpelledGiven, given_spelled}

-- what is read

abbrev Pieces : Type 0
Pieces = List PieceValue

any_ok : {A E : Type 0} (r : Result A E) → IfOk r (λ x. Unit {0})
any_ok (Ok x) = tt
any_ok (Err e) = tt

then_ok : {A B E : Type 0} (P : A → Type 0) (Q : B → Type 0) (r : Result A E) (next : A → Result B E) → IfOk r P → ((x : A) → P x → IfOk (next x) Q) → IfOk (r >>= next) Q
then_ok P Q (Ok x) next has goes = goes x has
then_ok P Q (Err e) next has goes = tt

at_line_ok : {A : Type 0} (P : A → Type 0) (at : InputLine) (r : Result A InputFault) → IfOk r P → IfOk (at_line at r) P
at_line_ok P at (Ok x) has = has
at_line_ok P at (Err e) has = tt

pub some_ok : {A E : Type 0} (P : A → Type 0) (o : Option A) (e : E) → IfSome o P → IfOk (ok_or o e) P
some_ok P (Some x) e has = has
some_ok P None e has = tt

row_spelled : (bytes : List ℕ) → IfOk (given_of bytes) IsSpelledGiven
row_spelled bytes =
    then_ok (λ (text : List ℕ). Unit {0}) IsSpelledGiven (behind (codes "row ") bytes) (λ text. ok_or (given_in (words_of text)) BadHeader)
    (any_ok (behind (codes "row ") bytes))
    (λ text any. some_ok IsSpelledGiven (given_in (words_of text)) BadHeader (given_spelled (words_of text)))

abbrev IsSpelledLine : GivenValue × Pieces → Type 0
IsSpelledLine read = IsSpelledGiven read.0

line_spelled : (pieces : Pieces) → IfOk (line_as given_of pieces) IsSpelledLine
line_spelled pieces =
    then_ok (λ (read : List ℕ × Pieces). Unit {0}) IsSpelledLine (next_line pieces) (λ read. given_of read.0 >>= (λ given. Ok (given, read.1)))
    (any_ok (next_line pieces))
    (λ read any. then_ok IsSpelledGiven IsSpelledLine (given_of read.0) (λ given. Ok (given, read.1)) (row_spelled read.0) (λ given is. is))

-- what isn't refused

none_mapped : {A B : Type 0} (f : A → B) (o : Option A) → option_map f o ≡ None → o ≡ None
none_mapped f None none = refl
none_mapped f (Some x) none = absurd cc

short_note : (note : List ℕ) → note_fault note ≡ None → nat_le (length note) MAX_NOTE ≡ true
short_note note free = grind (arith, nat_tests)

-- a row whose root key there is, and which the schema takes
record IsFree (tables : ℕ) (given : GivenValue) : Type 0 where
  root : given.root < ROOT_END
  schema : row_fault tables given.key given.row ≡ None

free_shape : (tables : ℕ) (given : GivenValue) → shape_fault tables given ≡ None → IsFree tables given
free_shape tables given free =
    elim (nat_lt given.root ROOT_END) as (λ b. nat_lt given.root ROOT_END ≡ b → (if not b then Some BadRoot else row_fault tables given.key given.row) ≡ None → IsFree tables given) [
      | true ↦ λ below is. record { root = ltb-true given.root ROOT_END below; schema = is }
      | false ↦ λ beyond is. absurd cc
    ] refl free

module _ (tables : ℕ) where
  pub row_fits : (key : RowKey) (row : RowValue) → InRange key → IsSpelledRow row → row_fault tables key row ≡ None → IsFitRow tables (key, row)
  row_fits key row range is free =
      record {
        in_range =
            and_from (nat_lt key.table (2 ^ 8)) (nat_lt key.sub (2 ^ 32) && nat_le (length row.note) MAX_NOTE) range.table
            (and_from (nat_lt key.sub (2 ^ 32)) (nat_le (length row.note) MAX_NOTE) range.sub
            (short_note row.note (or_none (key_fault tables key) (note_fault row.note) free).1));
        schema = free;
        number = is.number;
        note = is.note;
      }

  -- a row that isn't refused keeps rows fit
  one_fits : (rows : RowList) (key : RowKey) (row : RowValue) → AreFitRows tables rows → IsFitRow tables (key, row) → row_given_fault rows key ≡ None → AreFitRows tables (with_row rows key row)
  one_fits rows key row fit new free =
      record {
        rising = is_sorted-with_row rows key row fit.rising;
        rooted = is_rooted-opening (with_row rows key row) (is_opening-with_row rows key row free fit.rooted);
        each = All-with_row (IsFitRow tables) rows key row new fit.each;
      }

  taken_fits : (table : RowTable) (at : ℕ) (given : GivenValue) → IsFitTable tables table → IsSpelledGiven given → given_fault tables table at given ≡ None → IsFitTable tables (with_one table given)
  taken_fits table at given fit spelled none =
      let both = or_none (option_map (Row at) (shape_fault tables given)) (option_map (of_row at) (row_given_fault (table given.root) given.key)) none in
      let free = free_shape tables given (none_mapped (Row at) (shape_fault tables given) both.0) in
      let place = none_mapped (of_row at) (row_given_fault (table given.root) given.key) both.1 in
      let new : IsFitRow tables (given.key, given.row) = row_fits given.key given.row spelled.key spelled.row free.schema in
      record {
        rows = λ root.
            elim (given.root == root) as (λ b. (given.root == root) ≡ b → AreFitRows tables (if b then with_row (table root) given.key given.row else table root)) [
              | true ↦ λ same.
                  one_fits (table root) given.key given.row (fit.rows root) new
                  (ap (λ (k : ℕ). row_given_fault (table k) given.key) (sym (eqb-true given.root root same)) ∙ place)
              | false ↦ λ apart. fit.rows root
            ] refl;
        beyond = λ root from.
            elim (given.root == root) as (λ b. (given.root == root) ≡ b → (if b then with_row (table root) given.key given.row else table root) ≡ []) [
              | true ↦ λ same. let is = eqb-true given.root root same in let below = free.root in absurd (omega (arith, is, below, from))
              | false ↦ λ apart. fit.beyond root from
            ] refl;
      }

  abbrev TakesFit : RowTable × Pieces → Type 0
  TakesFit taken = IsFitTable tables taken.0

  unless_refused : (table : RowTable) (at : ℕ) (row : GivenValue × Pieces) → IsFitTable tables table → IsSpelledLine row → IfOk (unless_faulty (given_fault tables table at row.0) (with_one table row.0, row.1)) TakesFit
  unless_refused table at row fit spelled =
      elim (given_fault tables table at row.0) as (λ f. given_fault tables table at row.0 ≡ f → IfOk (unless_faulty f (with_one table row.0, row.1)) TakesFit) [
        | None ↦ λ none. taken_fits table at row.0 fit spelled none
        | Some fault ↦ λ some. tt
      ] refl

  row_taken_fits : (table : RowTable) (at : ℕ) (pieces : Pieces) → IsFitTable tables table → IfOk (row_taken tables table at pieces) TakesFit
  row_taken_fits table at pieces fit =
      then_ok IsSpelledLine TakesFit (at_line (line.Row at) (line_as given_of pieces)) (λ row. unless_faulty (given_fault tables table at row.0) (with_one table row.0, row.1))
      (at_line_ok IsSpelledLine (line.Row at) (line_as given_of pieces) (line_spelled pieces))
      (λ row spelled. unless_refused table at row fit spelled)

  rows_taken_fit : (pieces : Pieces) (table : RowTable) (at : ℕ) → IsFitTable tables table → IfOk (rows_taken tables table at pieces) TakesFit
  rows_taken_fit [] table at fit = fit
  rows_taken_fit (piece ∷ pieces) table at fit =
      elim (starts_with nat_eq (bytes_of piece) (codes "row ")) as (λ b. IfOk (if b then (row_taken tables table at (piece ∷ pieces) >>= (λ taken. rows_taken tables taken.0 (at + 1) pieces)) else Ok (table, piece ∷ pieces)) TakesFit) [
        | true ↦
            then_ok TakesFit TakesFit (row_taken tables table at (piece ∷ pieces)) (λ taken. rows_taken tables taken.0 (at + 1) pieces) (row_taken_fits table at (piece ∷ pieces) fit)
            (λ taken now. rows_taken_fit pieces taken.0 (at + 1) now)
        | false ↦ fit
      ]

  no_rows_fit : IsFitTable tables no_rows
  no_rows_fit = record { rows = λ root. record { rising = refl; rooted = refl; each = All-nil (IsFitRow tables) }; beyond = λ root from. refl }

  abbrev HasFit : HeaderValue × Pieces → Type 0
  HasFit read = IsFitTable tables read.0.rows

  plans_fit : (pieces : Pieces) → IfOk (plans_of pieces) HasFit
  plans_fit pieces =
      then_ok (λ first. Unit {0}) HasFit (first_lines pieces) (λ first. unless_faulty (plans_fault first.0) (header_of_first first.0, first.1)) (any_ok (first_lines pieces))
      (λ first any. elim (plans_fault first.0) as (λ f. IfOk (unless_faulty f (header_of_first first.0, first.1)) HasFit) [ None ↦ no_rows_fit | Some fault ↦ tt ])

  header_fits : (pieces : Pieces) → IfOk (header_of tables pieces) HasFit
  header_fits pieces =
      then_ok HasFit HasFit (plans_of pieces) (λ plans. rows_taken tables plans.0.rows 0 plans.1 >>= (λ rows. Ok (record plans.0 { rows = rows.0 }, rows.1))) (plans_fit pieces)
      (λ plans fit. then_ok TakesFit HasFit (rows_taken tables plans.0.rows 0 plans.1) (λ rows. Ok (record plans.0 { rows = rows.0 }, rows.1)) (rows_taken_fit plans.1 plans.0.rows 0 fit) (λ rows now. now))

  pub header_rows_fit : (pieces left : Pieces) (header : HeaderValue) → header_of tables pieces ≡ Ok (header, left) → IsFitTable tables header.rows
  header_rows_fit pieces left header is = subst (λ (r : Result (HeaderValue × Pieces) LocatedFault). IfOk r HasFit) is (header_fits pieces)
