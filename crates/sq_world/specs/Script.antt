-- A script that is run, line by line.
use Rattle.std.specs.Prelude.{◌≡◌, ℕ, Bool, List, [], ◌∷◌, ◌++◌, Option, Some, Ok, Err, ⊤}
use Rattle.std.specs.Io.KnownBytes.{Appends}
use Rattle.sq_moves.specs.OpeningValue.{OpeningValue}
use Rattle.sq_model.specs.Trace.{Trace}
use Rattle.sq_moves.specs.Opening.{IsOpening}
use Rattle.sq_model.specs.Legal.{IsLegal}
use Rattle.sq_transition.specs.WorldValue.{WorldValue}
use Rattle.sq_transition.specs.Holds.{Holds}
use Rattle.sq_text.specs.Pieces.{PieceValue}
use Rattle.sq_text.specs.Coming.{LinesValue, CanCome, Leaves}
use Rattle.sq_text.specs.Given.{IsGiven}
use Rattle.sq_text.specs.declared.located.LocatedFault.{LocatedFault}
use Rattle.sq_text.specs.Header.{header_of, Opens}
use Rattle.sq_text.specs.Steps.{step_of}
use Rattle.sq_world.specs.Dump.{dump}
use Rattle.sq_world.specs.declared.ending.Ending.{Ending}
use Rattle.sq_world.specs.declared.ending.Ending.TheVariants.{Done, Stopped, Fault}
use Rattle.sq_world.specs.declared.ending.ScriptManner.{ScriptManner}
use Rattle.sq_world.specs.Run.{AnswersLine, Writes}

-- a legal history from this opening leads to the world
pub record LeadsTo (o : OpeningValue) (t : Trace) (w : WorldValue) : Type 0 where
  pub is_opening : IsOpening o
  pub legal : IsLegal o t
  pub holds : Holds o t w

-- each step of the history is one that some line spells
abbrev pub AreSpelled : ℕ → Trace → Type 0
AreSpelled tables [] = Unit {0}
AreSpelled tables ((step, given) ∷ t) = ((line : List ℕ) × (step_of tables line ≡ Ok step)) × AreSpelled tables t

-- a history leads to the world that continues this one, by further steps that lines spell
pub record Continues (o : OpeningValue) (t : Trace) (w : WorldValue) : Type 0 where
  pub history : Trace
  pub leads : LeadsTo o history w
  pub spelled : AreSpelled o.tables t → AreSpelled o.tables history

-- the answer to a line after this history was written, and the world is the one that the history
-- then leads to; with the number of the line's refusal, if it is refused
pub record IsAnswered (echoes : Bool) (o : OpeningValue) (t : Trace) (line : List ℕ) (before now : Option (List ℕ))
    (w : WorldValue) (refused : Option ℕ) : Type 0 where
  pub after : Trace
  pub text : List ℕ
  pub answers_line : AnswersLine echoes o t line after text refused
  pub leads : LeadsTo o after w
  pub written : Appends before now text

-- if a run comes to its dump, that is written last, and it is the dump of this world
abbrev pub EndsWithDump : WorldValue → Option (List ℕ) → Option (List ℕ) → Ending → Type 0
EndsWithDump w before now Done = (answers : List ℕ) × Appends before now (answers ++ dump w)
EndsWithDump w before now (Stopped refused) = (answers : List ℕ) × Appends before now (answers ++ dump w)
EndsWithDump w before now (Fault located) = ⊤

-- the same of a world that is kept, if one is
abbrev pub KeepsDumped : Option WorldValue → Option (List ℕ) → Option (List ℕ) → Ending → Type 0
KeepsDumped kept before now Done = (w : WorldValue) × (kept ≡ Some w) × EndsWithDump w before now Done
KeepsDumped kept before now (Stopped refused) =
    (w : WorldValue) × (kept ≡ Some w) × EndsWithDump w before now (Stopped refused)
KeepsDumped kept before now (Fault located) = ⊤

-- the pieces begin with a header, and a history from its opening, whose steps lines spell, leads to
-- the world
pub record IsLedTo (tables : ℕ) (given : List PieceValue) (w : WorldValue) : Type 0 where
  pub opening : OpeningValue
  pub script : List PieceValue
  pub header : Opens tables (Ok opening) script (header_of tables given)
  pub history : Trace
  pub leads : LeadsTo opening history w
  pub spelled : AreSpelled opening.tables history

-- a reader of lines may return the pieces
abbrev pub IsLedByLines : ℕ → LinesValue → WorldValue → Type 0
IsLedByLines tables lines w = (given : List PieceValue) × CanCome lines given × IsLedTo tables given w

-- the pieces are those of what a reader returns
abbrev pub IsLedByReader : ℕ → Option (List ℕ) → WorldValue → Type 0
IsLedByReader tables known w = (given : List PieceValue) × IsGiven known given × IsLedTo tables given w

-- a run that comes to its dump keeps a world for which `Led` holds
abbrev pub KeepsLed : (WorldValue → Type 0) → Option WorldValue → Ending → Type 0
KeepsLed Led kept Done = (w : WorldValue) × (kept ≡ Some w) × Led w
KeepsLed Led kept (Stopped refused) = (w : WorldValue) × (kept ≡ Some w) × Led w
KeepsLed Led kept (Fault located) = ⊤

-- the answers to the lines of a script after this history were written, and the run ended so, in
-- this world
pub record IsWritten (manner : ScriptManner) (o : OpeningValue) (t : Trace) (lines : LinesValue) (before now : Option (List ℕ))
    (w : WorldValue) (ending : Ending) : Type 0 where
  pub pieces : List PieceValue
  pub can_come : CanCome lines pieces
  pub out : List ℕ
  pub writes : Writes manner o t pieces out ending
  pub written : Appends before now out
  pub dumped : EndsWithDump w before now ending
  pub continues : Continues o t w

-- whatever legal history of an opening with these tables led to the world, the line is answered
-- after it
abbrev pub AnswersWorld : Bool → ℕ → List ℕ → WorldValue → WorldValue → Option (List ℕ) → Option (List ℕ) → Option ℕ → Type 0
AnswersWorld echoes tables line old new before now refused =
    (o : OpeningValue) (t : Trace) → LeadsTo o t old → o.tables ≡ tables
    → IsAnswered echoes o t line before now new refused

-- whatever legal history of an opening with these tables led to the world, the script is run after
-- it
abbrev pub RunsScript : ScriptManner → ℕ → WorldValue → WorldValue → LinesValue → Option (List ℕ) → Option (List ℕ) → Ending → Type 0
RunsScript manner tables old new lines before now ending =
    (o : OpeningValue) (t : Trace) → LeadsTo o t old → o.tables ≡ tables → IsWritten manner o t lines before now new ending

-- the lines of a reader, up to those that are left, spell an opening, and the world is the one of
-- the opening
abbrev pub OpensWorld : ℕ → LinesValue → LinesValue → WorldValue → Type 0
OpensWorld tables old new world =
    (o : OpeningValue) × LeadsTo o [] world × Leaves old new (λ all left. Opens tables (Ok o) left (header_of tables all))

-- the lines of a reader have this fault in their header
abbrev pub RefusesHeader : ℕ → LinesValue → LinesValue → LocatedFault → Type 0
RefusesHeader tables old new fault = Leaves old new (λ all left. Opens tables (Err fault) left (header_of tables all))
