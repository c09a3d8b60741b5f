-- How the program ends.
use Rattle.std.specs.Prelude.{◌≡◌, ◌⊎◌, ℕ, Bool, true, false, if◌then◌else◌, List, Option, Some, None, is_some, unwrap_or, Result, Ok, Err, IfOk, ◌++◌, codes, decimal}
use Rattle.std.specs.Borrow.{Bor}
use Rattle.std.specs.Fmt.{option_append}
use Rattle.clap.specs.Values.{kind_of}
use Rattle.clap.specs.Walk.{Text}
use Rattle.clap.specs.declared.error.Error.{Error}
use Rattle.clap.specs.declared.error.kind.ErrorKind.{ErrorKind}
use Rattle.clap.specs.declared.error.kind.ErrorKind.TheVariants.{DisplayHelp, DisplayVersion}
use Rattle.sq_schema.specs.declared.schema.TheConstants.{MAX_TABLES}
use Rattle.sq_input.specs.Inputs.{plan_lines, inserted_text}
use Rattle.sq_text.specs.declared.output_fault.WriteFault.{WriteFault}
use Rattle.sq_world.specs.declared.ending.Ending.{Ending}
use Rattle.sq_world.specs.declared.ending.ScriptManner.{ScriptManner}
use Rattle.sq_world.specs.Run.{Runs, in_manner, exit_status_of}
use Rattle.sq_world.specs.Listing.{Lists, Tells}
use Rattle.sq_world.specs.Scripts.{WritesScript}
use Rattle.sq_moves.specs.declared.recon.TheConstants.{MAX_WIDTH}
use Rattle.sq_moves.specs.OpeningValue.{OpeningValue}
use Rattle.sq_picture.specs.Asked.{TellsOpening, IsAnyText}
use Rattle.sq_picture.specs.Owners.{IsOwnersText}
use Rattle.sq_picture.specs.Json.{TellsAsJson}
use Rattle.sq_picture.specs.Pictures.{IsPicture}
use Rattle.sq_live.specs.declared.ending.LiveEnding.{LiveEnding}
use Rattle.sq_live.specs.Live.{RunsLive, ending_status}
use Rattle.sq_serving.specs.declared.ending.ServeEnding.{ServeEnding}
use Rattle.sq_serving.specs.Ending.{serve_status}
use Rattle.sq_serving.specs.Service.{Serves}
use Rattle.sq_explain.specs.Meanings.{Explains}
use Rattle.sq_command.specs.declared.line.Plans.{Plans}
use Rattle.sq_command.specs.declared.line.Form.{Form}
use Rattle.sq_command.specs.declared.line.Form.TheVariants.{Lines, Json, Svg}
use Rattle.sq_command.specs.declared.line.Task.{Task}
use Rattle.sq_command.specs.declared.line.Task.TheVariants.{Run, Ranges, Live, Steps}
use Rattle.sq_command.specs.declared.line.Line.{Line}
use Rattle.sq_command.specs.declared.line.Line.TheVariants.{Work, Owner, Demo, Serve, Explain}
use Rattle.sq_command.specs.Line.{ComesOf}

-- the exit status of a run
abbrev pub exit_status : Result Ending WriteFault → ℕ
exit_status (Ok ending) = exit_status_of ending
exit_status (Err fault) = 2

-- the exit status of a live run
abbrev pub live_status : Result LiveEnding WriteFault → ℕ
live_status (Ok ending) = ending_status ending
live_status (Err fault) = 2

-- the run had an outcome with this property, unless a write failed, and ended with its status
pub record EndsAs {E : Type 0} (Holds : E → Type 0) (status_of : Result E WriteFault → ℕ) (status : ℕ) : Type 0 where
  pub ran : Result E WriteFault
  pub holds : IfOk ran Holds
  pub status_is : status ≡ status_of ran

-- the exit status after numbers were explained, or after a number that doesn't exist
abbrev pub explain_status : Result Bool WriteFault → ℕ
explain_status (Ok told) = if told then 0 else 2
explain_status (Err fault) = 2

-- what is read is run, and its answers are written; if they are written as JSON, only some writer
-- got them, and nothing is known of the JSON text
abbrev pub RunsAs : Bool → ScriptManner → Option (List ℕ) → Option (List ℕ) → Option (List ℕ) → Ending → Type 0
RunsAs false manner known before now = Runs manner MAX_TABLES known before now
RunsAs true manner known before now = Runs manner MAX_TABLES known None None

-- the same of the outcome of jobs in threads
abbrev pub RunsLiveAs : Bool → Bool → Option (List ℕ) → Option (List ℕ) → Option (List ℕ) → LiveEnding → Type 0
RunsLiveAs false folds known before now = RunsLive folds MAX_TABLES known before now
RunsLiveAs true folds known before now = RunsLive folds MAX_TABLES known None None

-- what is read is answered by what moves, in this format
abbrev pub MovesAs : Form → Option (List ℕ) → Option (List ℕ) → Option (List ℕ) → Ending → Type 0
MovesAs Lines = Lists MAX_TABLES
MovesAs Json = Tells TellsAsJson MAX_TABLES
MovesAs Svg = Tells IsPicture MAX_TABLES

-- the same by some text, with sizes
abbrev pub AnswersSizes : Option (List ℕ) → Option (List ℕ) → Option (List ℕ) → Ending → Type 0
AnswersSizes = TellsOpening IsAnyText MAX_TABLES

-- either of them
abbrev pub ListsAs : Form → Bool → Option (List ℕ) → Option (List ℕ) → Option (List ℕ) → Ending → Type 0
ListsAs form false = MovesAs form
ListsAs form true = AnswersSizes

-- a task was performed with the text that was read, and ended with this status
abbrev pub EndsTask : Task → Option (List ℕ) → Option (List ℕ) → Option (List ℕ) → ℕ → Type 0
EndsTask (Run echoes strict json rows_out) known before now = EndsAs (RunsAs json (in_manner echoes strict) known before now) exit_status
EndsTask (Ranges form sizes) known before now = EndsAs (ListsAs form sizes known before now) exit_status
EndsTask (Live live) known before now = EndsAs (RunsLiveAs live.json live.folds known before now) live_status
EndsTask Steps known before now = EndsAs (WritesScript MAX_TABLES known before now) exit_status

-- what comes after the plans: the main part of an input, and, if the rows have a file, these
-- inserted after its first line
abbrev pub IsBehindPlans : Option (Bor Text) → Option (List ℕ) → Option (List ℕ) → Type 0
IsBehindPlans None main behind = behind ≡ main
IsBehindPlans (Some file) main behind = (rows : Option (List ℕ)) × (behind ≡ inserted_text main rows)

-- the whole text of an input, from its main part: that alone, or after the lines of the plans if
-- these have files of their own
abbrev pub IsPutTogether : Option Plans → Option (List ℕ) → Option (List ℕ) → Type 0
IsPutTogether None main held = held ≡ main
IsPutTogether (Some plans) main held =
    (old : List ℕ) × (new : List ℕ) × (behind : Option (List ℕ)) × IsBehindPlans plans.rows main behind
    × (held ≡ option_append (Some (plan_lines old new)) behind)

-- a task was performed with these lines, then the main part, with some rows inserted after the
-- first line of that; or memory ran out for the rows
abbrev pub EndsWithRows : Task → List ℕ → Option (List ℕ) → Option (List ℕ) → Option (List ℕ) → ℕ → Type 0
EndsWithRows task lines main before now status =
    ((rows : Option (List ℕ)) × EndsTask task (option_append (Some lines) (inserted_text main rows)) before now status)
    ⊎ (status ≡ 2)

-- a task was performed with an input that has this main part and these plans, or else one of their
-- files can't be read
abbrev pub EndsParts : Task → Option Plans → Option (List ℕ) → Option (List ℕ) → Option (List ℕ) → ℕ → Type 0
EndsParts task plans main before now status =
    ((held : Option (List ℕ)) × IsPutTogether plans main held × EndsTask task held before now status)
    ⊎ ((is_some plans ≡ true) × (status ≡ 2))

-- the same with what was read as the main part, or with the text of a named file, unless that can't
-- be read
abbrev pub EndsMain : Task → Option Plans → Option (Bor Text) → Option (List ℕ) → Option (List ℕ) → Option (List ℕ) → ℕ → Type 0
EndsMain task plans None known before now status = EndsParts task plans known before now status
EndsMain task plans (Some file) known before now status =
    ((main : Option (List ℕ)) × EndsParts task plans main before now status) ⊎ (status ≡ 2)

-- the line of the sizes, with leaves of this width, or else the widest ones
abbrev pub widest_config : Option ℕ → List ℕ
widest_config width = codes "config " ++ decimal (unwrap_or width MAX_WIDTH) ++ codes " 64 1\n"

-- the lines of the owners of root keys, or as JSON any text
abbrev pub OwnersAs : Bool → Bool → List ℕ → OpeningValue → List ℕ → Type 0
OwnersAs false tells_leaves keys = IsOwnersText tells_leaves keys
OwnersAs true tells_leaves keys = IsAnyText

-- the owners of these root keys by two plans were written, in leaves of this width, as JSON or not,
-- or else a file can't be read, or memory ran out
abbrev pub EndsOwners : List ℕ → Option ℕ → Bool → Option (List ℕ) → Option (List ℕ) → ℕ → Type 0
EndsOwners keys width json before now status =
    ((old : List ℕ) × (new : List ℕ)
    × EndsAs (TellsOpening (OwnersAs json (is_some width) keys) MAX_TABLES
    (option_append (Some (plan_lines old new)) (Some (widest_config width))) before now) exit_status status)
    ⊎ (status ≡ 2)

-- nothing is known of what a file holds in which rows were to be saved
abbrev pub SavesAny : List ℕ → List ℕ → Bool → Type 0
SavesAny = λ name text saved. Unit {0}

-- an engine was served or not, until an ending with this status, or 2 if a report can't be written;
-- or nothing was written, and the status is 2, since a file can't be read or memory ran out
abbrev pub EndsEngine : Bool → Option (List ℕ) → Option (List ℕ) → ℕ → Type 0
EndsEngine strict before now status =
    ((ending : ServeEnding) × Serves strict SavesAny before now ending × ((status ≡ serve_status ending) ⊎ (status ≡ 2)))
    ⊎ ((now ≡ before) × (status ≡ 2))

-- what a line asks for was done with the text that was read, or that of the files, unless a file
-- can't be read, and ended with this status
abbrev pub EndsLine : Line → Option (List ℕ) → Option (List ℕ) → Option (List ℕ) → ℕ → Type 0
EndsLine (Work task input) known before now status = EndsMain task input.plans input.file known before now status
EndsLine (Owner keys plans width json) known before now status = EndsOwners keys.items width json before now status
EndsLine (Demo demo folder) known before now status = (status ≡ 0) ⊎ (status ≡ 2)
EndsLine (Serve pumps strict files file reports) known before now status = EndsEngine strict before now status
EndsLine (Explain number) known before now status = EndsAs (Explains number before now) explain_status status

-- the words have no fault, and what their subcommand asks for ended with this status
pub record IsCarriedOut (words : List Text) (known before now : Option (List ℕ)) (status : ℕ) : Type 0 where
  pub line : Line
  pub comes : ComesOf words (Ok line)
  pub ends : EndsLine line known before now status

-- the status after a message about the words: 2, or 0 after a help text or the version
abbrev pub IsUsageStatus : ErrorKind → ℕ → Type 0
IsUsageStatus kind status = (status ≡ 2) ⊎ ((status ≡ 0) × ((kind ≡ DisplayHelp) ⊎ (kind ≡ DisplayVersion)))

-- the words were answered by a message: they have a fault, ask for a help text or the version, or
-- have options that don't go together, or memory ran out
pub record IsUsage (words : List Text) (status : ℕ) : Type 0 where
  pub error : Error
  pub comes : ComesOf words (Err error)
  pub status_is : IsUsageStatus (kind_of error) status

-- the words were carried out and ended with this status, or else they were answered by a message
abbrev pub EndsWith : List Text → Option (List ℕ) → Option (List ℕ) → Option (List ℕ) → ℕ → Type 0
EndsWith words known before now status = IsCarriedOut words known before now status ⊎ IsUsage words status
