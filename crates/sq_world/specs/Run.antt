-- A run: what is written for an input.
use Rattle.std.specs.Prelude.{◌≡◌, ◌⊎◌, ℕ, ◌+◌, Bool, true, List, [], ◌∷◌, ◌++◌, if◌then◌else◌, Option, None, Some, Ok, Err}
use Rattle.sq_moves.specs.OpeningValue.{OpeningValue}
use Rattle.sq_model.specs.declared.step.Step.{Step}
use Rattle.sq_model.specs.declared.answer.Answer.{Answer}
use Rattle.sq_model.specs.Trace.{Trace}
use Rattle.sq_moves.specs.Opening.{IsOpening}
use Rattle.sq_model.specs.Legal.{IsAnswer}
use Rattle.sq_transition.specs.WorldValue.{WorldValue}
use Rattle.sq_transition.specs.Holds.{Holds}
use Rattle.sq_text.specs.declared.fault.LineFault.{LineFault}
use Rattle.sq_text.specs.declared.fault.LineFault.TheVariants as line_fault
use Rattle.sq_text.specs.declared.located.InputLine.TheVariants.{Later}
use Rattle.sq_text.specs.declared.located.LocatedFault.{LocatedFault}
use Rattle.sq_text.specs.declared.input_fault.InputFault.TheVariants.{TooLong, ReadFailed}
use Rattle.sq_text.specs.Words.{words_of}
use Rattle.sq_text.specs.Steps.{step_of, begins_txn}
use Rattle.sq_text.specs.Faults.{line_fault_number}
use Rattle.sq_text.specs.InputFaults.{input_fault_number}
use Rattle.sq_text.specs.Located.{located}
use Rattle.sq_text.specs.Texts.{fault_line}
use Rattle.sq_text.specs.declared.reader.TheConstants.{MAX_LINES}
use Rattle.sq_text.specs.Pieces.{PieceValue, Line, Rest, Failed, Endless, TooMany}
use Rattle.sq_text.specs.Coming.{LinesValue}
use Rattle.sq_text.specs.Header.{header_of, Opens}
use Rattle.sq_world.specs.declared.ending.Ending.{Ending}
use Rattle.sq_world.specs.declared.ending.Ending.TheVariants.{Done, Stopped, Fault}
use Rattle.sq_world.specs.declared.ending.ScriptManner.{ScriptManner}
use Rattle.sq_world.specs.Dump.{dump}
use Rattle.sq_world.specs.Echo.{answer_text, refused_text, refusal_in}
use Rattle.sq_world.specs.Inputs.{Writing, OfLines, OfReader}

-- a run with echoes or without, and strict or not
abbrev pub in_manner : Bool → Bool → ScriptManner
in_manner echoes strict = record { echoes = echoes; strict = strict }

-- the line spells a step, which is answered as the history determines
pub record IsStepLine (echoes : Bool) (o : OpeningValue) (t : Trace) (line : List ℕ) (after : Trace) (text : List ℕ)
    (refused : Option ℕ) : Type 0 where
  pub step : Step
  pub given : Answer
  pub spelled : step_of o.tables line ≡ Ok step
  pub answered : IsAnswer o t step given
  pub goes_on : after ≡ (step, given) ∷ t
  pub says : text ≡ answer_text echoes line given
  pub refuses : refused ≡ refusal_in given

-- the line isn't a step, and is refused with its number
pub record IsNoStep (echoes : Bool) (o : OpeningValue) (t : Trace) (line : List ℕ) (after : Trace) (text : List ℕ)
    (refused : Option ℕ) : Type 0 where
  pub fault : LineFault
  pub spelled : step_of o.tables line ≡ Err fault
  pub stays : after ≡ t
  pub says : text ≡ refused_text echoes line (line_fault_number fault)
  pub refuses : refused ≡ Some (line_fault_number fault)

-- memory ran out at the words of a transaction, and the line isn't a step
pub record IsUnread (echoes : Bool) (t : Trace) (line : List ℕ) (after : Trace) (text : List ℕ) (refused : Option ℕ) : Type 0 where
  pub transaction : begins_txn (words_of line) ≡ true
  pub stays : after ≡ t
  pub says : text ≡ refused_text echoes line (line_fault_number line_fault.Memory)
  pub refuses : refused ≡ Some (line_fault_number line_fault.Memory)

-- the answer to a line after this history, the history after it, and the number of its refusal, if
-- it is refused; echoes says whether the line is written before its answer
abbrev pub AnswersLine : Bool → OpeningValue → Trace → List ℕ → Trace → List ℕ → Option ℕ → Type 0
AnswersLine echoes o t line after text refused =
    IsStepLine echoes o t line after text refused
    ⊎ (IsNoStep echoes o t line after text refused ⊎ IsUnread echoes t line after text refused)

-- the refusal after which a run in this manner ends, if it does
abbrev pub stopping : ScriptManner → Option ℕ → Option ℕ
stopping manner refused = if manner.strict then refused else None

-- how a run ends at a line, with the refusal that ends it, if one does
abbrev pub ending_at : Option ℕ → ℕ → Ending
ending_at None line = Done
ending_at (Some number) line = Stopped (record { line = line; number = number })

-- at the end of the script the world that the history leads to is dumped
pub record IsDumped (o : OpeningValue) (t : Trace) (out : List ℕ) : Type 0 where
  pub world : WorldValue
  pub holds : Holds o t world
  pub says : out ≡ dump world

-- only the number of a fault is written, and the ending has its line
pub record IsFault (located : LocatedFault) (out : List ℕ) (ending : Ending) : Type 0 where
  pub says : out ≡ fault_line (input_fault_number located.fault)
  pub ends : ending ≡ Fault located

-- a run goes on after a line, unless a refusal ends it there
abbrev pub GoesOnBehind : Option ℕ → ℕ → OpeningValue → Trace → List ℕ → Ending → Type 0 → Type 0
GoesOnBehind None line o t out ending On = On
GoesOnBehind (Some number) line o t out ending On = IsDumped o t out × (ending ≡ ending_at (Some number) line)

-- what is written for the pieces of a script after this history, and how the run ends
abbrev pub Writes : ScriptManner → OpeningValue → Trace → List PieceValue → List ℕ → Ending → Type 0
Writes manner o t [] out ending = IsDumped o t out × (ending ≡ Done)
Writes manner o t (Line number line ∷ others) out ending =
    (after : Trace) × (text : List ℕ) × (later : List ℕ) × (refused : Option ℕ)
    × AnswersLine manner.echoes o t line after text refused × (out ≡ text ++ later)
    × GoesOnBehind (stopping manner refused) number o after later ending (Writes manner o after others later ending)
Writes manner o t (Rest number bytes ∷ others) out ending =
    (later : List ℕ)
    × (out ≡ refused_text manner.echoes bytes (line_fault_number line_fault.NotAStep) ++ later)
    × GoesOnBehind (stopping manner (Some (line_fault_number line_fault.NotAStep))) number o t later ending
    (Writes manner o t others later ending)
Writes manner o t (Failed number bytes ∷ others) out ending = IsFault (located ReadFailed (Some (Later number))) out ending
Writes manner o t (Endless number bytes ∷ others) out ending = IsFault (located TooLong (Some (Later number))) out ending
Writes manner o t (TooMany ∷ others) out ending = IsFault (located TooLong (Some (Later (MAX_LINES + 1)))) out ending

-- the header is read as this opening, and then the script is run from it
pub record IsRunFrom (manner : ScriptManner) (tables : ℕ) (given : List PieceValue) (out : List ℕ) (ending : Ending) : Type 0 where
  pub opening : OpeningValue
  pub script : List PieceValue
  pub header : Opens tables (Ok opening) script (header_of tables given)
  pub is_opening : IsOpening opening
  pub writes : Writes manner opening [] script out ending

-- the header has a fault, this being the first, or memory ran out
pub record IsRefused (tables : ℕ) (given : List PieceValue) (out : List ℕ) (ending : Ending) : Type 0 where
  pub fault : LocatedFault
  pub left : List PieceValue
  pub header : Opens tables (Err fault) left (header_of tables given)
  pub wrote : IsFault fault out ending

-- what is written for the pieces of an input, and how the run ends
abbrev pub IsRun : ScriptManner → ℕ → List PieceValue → List ℕ → Ending → Type 0
IsRun manner tables given out ending = IsRunFrom manner tables given out ending ⊎ IsRefused tables given out ending

-- what a reader returns is run, and what is written for it is appended to what a writer holds
abbrev pub Runs : ScriptManner → ℕ → Option (List ℕ) → Option (List ℕ) → Option (List ℕ) → Ending → Type 0
Runs manner tables = OfReader (IsRun manner tables)

-- the same for pieces that a reader of lines may return
abbrev pub RunsLines : ScriptManner → ℕ → LinesValue → Option (List ℕ) → Option (List ℕ) → Ending → Type 0
RunsLines manner tables = OfLines (IsRun manner tables)

-- the number of a fault is appended to what a writer holds, and ends the run
abbrev pub EndsAtFault : LocatedFault → Option (List ℕ) → Option (List ℕ) → Ending → Type 0
EndsAtFault located = Writing (IsFault located)

-- the exit status of an ending
abbrev pub exit_status_of : Ending → ℕ
exit_status_of Done = 0
exit_status_of (Stopped refused) = 3
exit_status_of (Fault located) = 2
