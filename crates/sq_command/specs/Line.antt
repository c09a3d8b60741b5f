-- What the words of a command line ask for.
use Rattle.std.specs.Prelude.{◌≡◌, ◌⊎◌, ◌≤◌, ◌<◌, ◌^◌, ℕ, Bool, List, true, false, codes, [], ◌∷◌, length, Option, Some, None, IfSome, Result, Ok, Err}
use Rattle.std.specs.List.{list_any}
use Rattle.std.specs.Str.{bytes_eq}
use Rattle.std.specs.Str.Parse.{IsNumeral, digits_value, without_leading_plus}
use Rattle.clap.specs.Values.{kind_of}
use Rattle.clap.specs.Walk.{Text, Row, one_of}
use Rattle.clap.specs.Words.{HasKind, fault_of, subcommand_of}
use Rattle.clap.specs.declared.error.Error.{Error}
use Rattle.clap.specs.declared.error.kind.ErrorKind.{ErrorKind}
use Rattle.clap.specs.declared.error.kind.ErrorKind.TheVariants.{ArgumentConflict, MissingRequiredArgument, OutOfMemory}
use Rattle.sq_command.specs.Commands.{squall}
use Rattle.sq_command.specs.Options.{NumberOf, FlagOf, IsNameOf, IsInputOf, LacksPlan, Asks, clash_kind}
use Rattle.sq_command.specs.Owner.{IsOwnerLine, OwnerClash}
use Rattle.sq_command.specs.Demo.{IsDemoLine, LacksFolder, DemoIsWithin}
use Rattle.sq_command.specs.Serve.{IsEngineLine, LacksEnginePlan}
use Rattle.sq_command.specs.declared.clash.Clash.{Clash}
use Rattle.sq_command.specs.declared.tasks.TheConstants.{MAX_TURNS, MAX_PUMPS, TURNS, PUMPS}
use Rattle.sq_command.specs.declared.owner.TheConstants.{MAX_WIDTH}
use Rattle.sq_command.specs.declared.line.Form.{Form}
use Rattle.sq_command.specs.declared.line.Form.TheVariants.{Lines, Json, Svg}
use Rattle.sq_command.specs.declared.line.LiveOptions.{LiveOptions}
use Rattle.sq_command.specs.declared.line.Task.{Task}
use Rattle.sq_command.specs.declared.line.Task.TheVariants.{Run, Ranges, Live, Steps}
use Rattle.sq_command.specs.declared.line.Line.{Line}
use Rattle.sq_command.specs.declared.line.Line.TheVariants.{Work, Owner, Demo, Serve, Explain}

-- the text spells a number of 16 bits
abbrev pub SpellsShort : Text → Type 0
SpellsShort text =
    let digits = without_leading_plus text in IsNumeral 10 digits × (digits_value 10 digits < 2 ^ 16)

-- the number that a word spells, if there is a word and it spells one
abbrev pub GivenNumber : Option Text → Option ℕ → Type 0
GivenNumber None number = number ≡ None
GivenNumber (Some text) None = SpellsShort text → ⊥
GivenNumber (Some text) (Some number) =
    SpellsShort text × (number ≡ digits_value 10 (without_leading_plus text))

-- the format is lines, or the one whose flag is given
abbrev pub IsFormOf : List Row → Form → Type 0
IsFormOf rows Lines =
    FlagOf (one_of (codes "json") rows) false × FlagOf (one_of (codes "svg") rows) false
IsFormOf rows Json =
    FlagOf (one_of (codes "json") rows) true × FlagOf (one_of (codes "svg") rows) false
IsFormOf rows Svg =
    FlagOf (one_of (codes "json") rows) false × FlagOf (one_of (codes "svg") rows) true

-- the JSON flag is given or isn't, and it is given only with `--echo`
abbrev pub IsJsonOf : List Row → Bool → Type 0
IsJsonOf rows json =
    FlagOf (one_of (codes "json") rows) json
    × (json ≡ true → FlagOf (one_of (codes "echo") rows) true)

-- the task is a run, with the flags and the file of these options
abbrev pub IsRunTask : List Row → Task → Type 0
IsRunTask rows (Run echoes strict json rows_out) =
    FlagOf (one_of (codes "echo") rows) echoes × FlagOf (one_of (codes "strict") rows) strict
    × IsJsonOf rows json × IsNameOf (codes "rows-out") rows rows_out
IsRunTask rows (Ranges form sizes) = ⊥
IsRunTask rows (Live live) = ⊥
IsRunTask rows Steps = ⊥

-- the task is a listing in the format that is asked for, with sizes if that flag is given
abbrev pub IsRangesTask : List Row → Task → Type 0
IsRangesTask rows (Run echoes strict json rows_out) = ⊥
IsRangesTask rows (Ranges form sizes) =
    IsFormOf rows form × FlagOf (one_of (codes "sizes") rows) sizes
IsRangesTask rows (Live live) = ⊥
IsRangesTask rows Steps = ⊥

-- the numbers, the flags and the files of a live run are those of these options
pub record AreLiveOptions (rows : List Row) (live : LiveOptions) : Type 0 where
  pub turns : NumberOf 1 MAX_TURNS TURNS (one_of (codes "turns") rows) live.turns
  pub pumps : NumberOf 1 MAX_PUMPS PUMPS (one_of (codes "pumps") rows) live.pumps
  pub folds : FlagOf (one_of (codes "fold") rows) live.folds
  pub json : FlagOf (one_of (codes "json") rows) live.json
  pub summary : FlagOf (one_of (codes "summary") rows) live.summary
  pub summary_out : IsNameOf (codes "summary-out") rows live.summary_out
  pub timeline : IsNameOf (codes "timeline") rows live.timeline
  pub replies : IsNameOf (codes "replies") rows live.replies
  pub rows_out : IsNameOf (codes "rows-out") rows live.rows_out

-- the task is a live run with these options
abbrev pub IsLiveTask : List Row → Task → Type 0
IsLiveTask rows (Run echoes strict json rows_out) = ⊥
IsLiveTask rows (Ranges form sizes) = ⊥
IsLiveTask rows (Live live) = AreLiveOptions rows live
IsLiveTask rows Steps = ⊥

-- the task is to write the script of the move
abbrev pub IsStepsTask : List Row → Task → Type 0
IsStepsTask rows task = task ≡ Steps

-- the line performs a task that satisfies `IsTask`, with the input that is named
abbrev pub IsWorkLine : (List Row → Task → Type 0) → List Row → Line → Type 0
IsWorkLine IsTask rows (Work task input) = IsTask rows task × IsInputOf rows input
IsWorkLine IsTask rows (Owner keys plans width json) = ⊥
IsWorkLine IsTask rows (Demo demo folder) = ⊥
IsWorkLine IsTask rows (Serve pumps strict files file reports) = ⊥
IsWorkLine IsTask rows (Explain number) = ⊥

-- the line asks for the number that is named
abbrev pub IsExplainLine : List Row → Line → Type 0
IsExplainLine rows (Work task input) = ⊥
IsExplainLine rows (Owner keys plans width json) = ⊥
IsExplainLine rows (Demo demo folder) = ⊥
IsExplainLine rows (Serve pumps strict files file reports) = ⊥
IsExplainLine rows (Explain number) = GivenNumber (one_of (codes "number") rows) number

-- the format is refused because two are asked for
abbrev pub FormClash : List Row → ErrorKind → Type 0
FormClash rows kind =
    (kind ≡ ArgumentConflict) × FlagOf (one_of (codes "json") rows) true
    × FlagOf (one_of (codes "svg") rows) true

-- a listing is refused because two formats are asked for, or because a file of a plan is missing
abbrev pub RangesClash : List Row → ErrorKind → Type 0
RangesClash rows kind =
    FormClash rows kind ⊎ LacksPlan rows kind

-- the JSON flag is refused because it is given without `--echo`
abbrev pub EchoClash : List Row → ErrorKind → Type 0
EchoClash rows kind =
    (kind ≡ MissingRequiredArgument) × FlagOf (one_of (codes "json") rows) true
    × FlagOf (one_of (codes "echo") rows) false

-- a run is refused because it lacks `--echo` or the file of a plan
abbrev pub RunClash : List Row → ErrorKind → Type 0
RunClash rows kind = EchoClash rows kind ⊎ LacksPlan rows kind

-- the names of the program's subcommands
abbrev pub subcommand_names : List Text
subcommand_names =
    codes "run" ∷ codes "ranges" ∷ codes "live" ∷ codes "steps" ∷ codes "owner" ∷ codes "demo"
    ∷ codes "serve" ∷ codes "explain" ∷ []

-- the program has a subcommand with this name
abbrev pub IsSubcommand : Text → Type 0
IsSubcommand name = list_any (bytes_eq name) subcommand_names ≡ true

-- the result is what the subcommand and the options that `clap` finds ask for
abbrev pub IsAskedOf : Option (Text × List Row) → Result Line Clash → Type 0
IsAskedOf None asked = ⊥
IsAskedOf (Some sub) asked =
    ((sub.0 ≡ codes "run") × Asks (IsWorkLine IsRunTask) RunClash sub.1 asked)
    ⊎ (((sub.0 ≡ codes "ranges") × Asks (IsWorkLine IsRangesTask) RangesClash sub.1 asked)
    ⊎ (((sub.0 ≡ codes "live") × Asks (IsWorkLine IsLiveTask) LacksPlan sub.1 asked)
    ⊎ (((sub.0 ≡ codes "steps") × Asks (IsWorkLine IsStepsTask) LacksPlan sub.1 asked)
    ⊎ (((sub.0 ≡ codes "owner") × Asks IsOwnerLine OwnerClash sub.1 asked)
    ⊎ (((sub.0 ≡ codes "demo") × Asks IsDemoLine LacksFolder sub.1 asked)
    ⊎ (((sub.0 ≡ codes "serve") × Asks IsEngineLine LacksEnginePlan sub.1 asked)
    ⊎ ((sub.0 ≡ codes "explain") × Asks IsExplainLine (λ rows kind. ⊥) sub.1 asked)))))))

-- a line is returned as it is, and a clash as an error of its kind, unless memory runs out
abbrev pub Settles : Result Line Clash → Result Line Error → Type 0
Settles (Ok line) (Ok settled) = settled ≡ line
Settles (Ok line) (Err error) = ⊥
Settles (Err clash) (Ok settled) = ⊥
Settles (Err clash) (Err error) = (kind_of error ≡ OutOfMemory) ⊎ (kind_of error ≡ clash_kind clash)

-- `clap` finds no fault in the words, and a clash of this kind refuses what they ask for
abbrev pub ClashesAt : List Text → ErrorKind → Type 0
ClashesAt words kind =
    (fault_of squall words ≡ [])
    × ((clash : Clash) × IsAskedOf (subcommand_of squall words) (Err clash)
    × (kind ≡ clash_kind clash))

-- the result of parsing words: a line if they have no fault; else `clap` finds a fault of the
-- error's kind, memory ran out, or options don't go together
abbrev pub ComesOf : List Text → Result Line Error → Type 0
ComesOf words (Ok line) =
    (fault_of squall words ≡ []) × IsAskedOf (subcommand_of squall words) (Ok line)
ComesOf words (Err error) = HasKind (fault_of squall words) error ⊎ ClashesAt words (kind_of error)

-- the numbers of a task are within their limits
abbrev pub IsWithin : Task → Type 0
IsWithin (Run echoes strict json rows_out) = Unit {0}
IsWithin (Ranges form sizes) = Unit {0}
IsWithin (Live live) =
    (1 ≤ live.turns) × (live.turns ≤ MAX_TURNS) × (1 ≤ live.pumps) × (live.pumps ≤ MAX_PUMPS)
IsWithin Steps = Unit {0}

-- the numbers of a line are within their limits, and a line that asks for owners has at least one
-- root key
abbrev pub LineIsWithin : Line → Type 0
LineIsWithin (Work task input) = IsWithin task
LineIsWithin (Owner keys plans width json) =
    (1 ≤ length keys.items) × IfSome width (λ n. (1 ≤ n) × (n ≤ MAX_WIDTH))
LineIsWithin (Demo demo folder) = DemoIsWithin demo
LineIsWithin (Serve pumps strict files file reports) =
    (1 ≤ pumps) × (pumps ≤ MAX_PUMPS)
LineIsWithin (Explain number) = Unit {0}
