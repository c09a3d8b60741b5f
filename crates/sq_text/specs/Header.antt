-- The header of an input: two plans, the sizes, and the opening rows.
use Rattle.std.specs.Prelude.{◌≡◌, ◌≢◌, ◌≤◌, ◌+◌, ℕ, nat_eq, nat_lt, if◌then◌else◌, List, [], ◌∷◌, length, drop, Option, Some, None, IfSome, Result, Ok, Err, codes, ok_or}
use Rattle.std.specs.List.{starts_with}
use Rattle.sq_schema.specs.Chain.{◌>>=◌}
use Rattle.sq_schema.specs.Effect.{RowTable}
use Rattle.sq_schema.specs.Table.{rows_in}
use Rattle.sq_plan.specs.declared.fault.PlanFault.{PlanFault}
use Rattle.sq_plan.specs.PlanValue.{PlanValue}
use Rattle.sq_plan.specs.Reading.{plan_in}
use Rattle.sq_moves.specs.declared.opening.Config.{Config}
use Rattle.sq_moves.specs.declared.opening_fault.OpeningFault.{OpeningFault}
use Rattle.sq_moves.specs.OpeningValue.{OpeningValue}
use Rattle.sq_moves.specs.Between.{recon_of}
use Rattle.sq_moves.specs.Given.{GivenValue, no_rows, with_one}
use Rattle.sq_moves.specs.Refused.{config_fault, given_fault}
use Rattle.sq_text.specs.declared.header.FirstLines.{FirstLines}
use Rattle.sq_text.specs.declared.step.TheConstants.{MAX_LINE}
use Rattle.sq_text.specs.declared.input_fault.InputFault.{InputFault}
use Rattle.sq_text.specs.declared.input_fault.InputFault.TheVariants.{Plan, BadHeader, TooLong, ReadFailed, LineTooLong, Memory}
use Rattle.sq_text.specs.declared.located.InputLine.TheVariants as line
use Rattle.sq_text.specs.declared.located.LocatedFault.{LocatedFault}
use Rattle.sq_text.specs.Words.{words_of}
use Rattle.sq_text.specs.Pieces.{PieceValue, Line, Rest, Failed, Endless, TooMany, bytes_of}
use Rattle.sq_text.specs.Coming.{LinesValue}
use Rattle.sq_text.specs.Located.{at_line, line_number, of_opening}
use Rattle.sq_text.specs.HeaderFields.{config_in, given_in}

-- the bytes of a line of the header, or why it is refused: it has too many bytes, or no end, or a
-- read failed
abbrev pub line_in : PieceValue → Result (List ℕ) InputFault
line_in (Line number bytes) = if nat_lt MAX_LINE (length bytes) then Err LineTooLong else Ok bytes
line_in (Rest number bytes) = if nat_lt MAX_LINE (length bytes) then Err LineTooLong else Err BadHeader
line_in (Failed number bytes) = if nat_lt MAX_LINE (length bytes) then Err LineTooLong else Err ReadFailed
line_in (Endless number bytes) = Err LineTooLong
line_in TooMany = Err TooLong

-- the next line, and what comes after it
abbrev pub next_line : List PieceValue → Result (List ℕ × List PieceValue) InputFault
next_line [] = Err BadHeader
next_line (piece ∷ pieces) = do
  line ← line_in piece
  Ok (line, pieces)

-- the next line, read so, and what comes after it
abbrev pub line_as : {A : Type 0} → (List ℕ → Result A InputFault) → List PieceValue → Result (A × List PieceValue) InputFault
line_as read pieces = do
  line ← next_line pieces
  value ← read line.0
  Ok (value, line.1)

-- the bytes after this front, which they begin with
abbrev pub behind : List ℕ → List ℕ → Result (List ℕ) InputFault
behind front bytes = if starts_with nat_eq bytes front then Ok (drop (length front) bytes) else Err BadHeader

-- a plan, or why it is refused
abbrev pub plan_told : Result PlanValue PlanFault → Result PlanValue InputFault
plan_told (Ok plan) = Ok plan
plan_told (Err fault) = Err (Plan fault)

-- the plan of a line that begins with this front
abbrev pub plan_behind : List ℕ → List ℕ → Result PlanValue InputFault
plan_behind front line = do
  text ← behind front line
  plan_told (plan_in text)

-- the sizes of a line: config W L C
abbrev pub config_of : List ℕ → Result Config InputFault
config_of line = do
  text ← behind (codes "config ") line
  ok_or (config_in (words_of text)) BadHeader

-- the opening row of a line: row ROOT T S N NOTE
abbrev pub given_of : List ℕ → Result GivenValue InputFault
given_of line = do
  text ← behind (codes "row ") line
  ok_or (given_in (words_of text)) BadHeader

-- the plans and the sizes that pieces begin with, and what comes after these three lines
abbrev pub first_lines : List PieceValue → Result (FirstLines × List PieceValue) LocatedFault
first_lines pieces = do
  old ← at_line line.Old (line_as (plan_behind (codes "old ")) pieces)
  new ← at_line line.New (line_as (plan_behind (codes "new ")) old.1)
  config ← at_line line.Config (line_as config_of new.1)
  Ok (record { old = old.0; new = new.0; config = config.0 }, config.1)

-- the answer, seen by view, is this, with what comes after it left to be read; or it is the first
-- fault, unless memory ran out
abbrev pub IsReadBefore : {X Y : Type 0} → (X → Y) → Result X LocatedFault → List PieceValue
    → Result (Y × List PieceValue) LocatedFault → Type 0
IsReadBefore view (Ok x) left wanted = wanted ≡ Ok (view x, left)
IsReadBefore view (Err refused) left wanted = refused.fault ≢ Memory → wanted ≡ Err refused

-- this, unless an opening has a fault
abbrev pub unless_faulty : {A : Type 0} → Option OpeningFault → A → Result A LocatedFault
unless_faulty None x = Ok x
unless_faulty (Some fault) x = Err (of_opening fault)

-- what a header spells: the plans, the sizes, and the table of its rows
pub record HeaderValue : Type 0 where
  pub old : PlanValue
  pub new : PlanValue
  pub config : Config
  pub rows : RowTable

-- why the plans and the sizes of the first lines are refused
abbrev pub plans_fault : FirstLines → Option OpeningFault
plans_fault first = config_fault first.old first.new first.config

-- the header of these first lines, without rows
abbrev pub header_of_first : FirstLines → HeaderValue
header_of_first first = record { old = first.old; new = first.new; config = first.config; rows = no_rows }

-- the header without rows that pieces begin with, and what comes after its three lines; a fault of
-- plans or sizes ends it
abbrev pub plans_of : List PieceValue → Result (HeaderValue × List PieceValue) LocatedFault
plans_of pieces = do
  first ← first_lines pieces
  unless_faulty (plans_fault first.0) (header_of_first first.0, first.1)

-- the table with the row of the next line, which has this number, and what comes after it
abbrev pub row_taken : ℕ → RowTable → ℕ → List PieceValue → Result (RowTable × List PieceValue) LocatedFault
row_taken tables table at pieces = do
  row ← at_line (line.Row at) (line_as given_of pieces)
  unless_faulty (given_fault tables table at row.0) (with_one table row.0, row.1)

-- as long as lines begin as a row's line does, their rows are taken one after another, numbered
-- from this on; the first that is refused ends it
abbrev pub rows_taken : ℕ → RowTable → ℕ → List PieceValue → Result (RowTable × List PieceValue) LocatedFault
rows_taken tables table at [] = Ok (table, [])
rows_taken tables table at (piece ∷ pieces) =
    if starts_with nat_eq (bytes_of piece) (codes "row ")
    then (row_taken tables table at (piece ∷ pieces) >>= (λ taken. rows_taken tables taken.0 (at + 1) pieces))
    else Ok (table, piece ∷ pieces)

-- the header that pieces begin with, and what comes after it: the plans and the sizes, and then row
-- by row
abbrev pub header_of : ℕ → List PieceValue → Result (HeaderValue × List PieceValue) LocatedFault
header_of tables pieces = do
  plans ← plans_of pieces
  rows ← rows_taken tables plans.0.rows 0 plans.1
  Ok (record plans.0 { rows = rows.0 }, rows.1)

-- the header of this opening
abbrev pub header_in : OpeningValue → HeaderValue
header_in o = record { old = o.old; new = o.new; config = o.config; rows = rows_in o.table }

-- the opening that is spelled, for this many tables, with what comes after it left to be read
pub record IsSpelledOpening (tables : ℕ) (o : OpeningValue) (left : List PieceValue)
    (wanted : Result (HeaderValue × List PieceValue) LocatedFault) : Type 0 where
  pub spelled : wanted ≡ Ok (header_in o, left)
  pub tables_are : o.tables ≡ tables
  pub moves : o.recon ≡ recon_of o.old o.new o.config.width

-- the answer is the opening that is spelled, or else the first fault, unless memory ran out
abbrev pub Opens : ℕ → Result OpeningValue LocatedFault → List PieceValue
    → Result (HeaderValue × List PieceValue) LocatedFault → Type 0
Opens tables (Ok opening) left wanted = IsSpelledOpening tables opening left wanted
Opens tables (Err refused) left wanted = refused.fault ≢ Memory → wanted ≡ Err refused

-- no line after the one of the fault was taken
abbrev pub StopsAt : LocatedFault → LinesValue → LinesValue → Type 0
StopsAt refused old new = IfSome refused.line (λ at. old.lines_left ≤ new.lines_left + line_number at)
