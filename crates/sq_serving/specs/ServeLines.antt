-- What a line after the header asks of an engine.
use Rattle.std.specs.Prelude.{◌≡◌, ◌⊎◌, ℕ, true, nat_eq, nat_lt, if◌then◌else◌, List, [], ◌∷◌, find, drop, length, Option, Some, None, Result, Ok, Err, bytes_eq, codes}
use Rattle.std.specs.List.{starts_with}
use Rattle.std.specs.Str.{is_utf8}
use Rattle.sq_schema.specs.declared.root.TheConstants.{ROOT_END}
use Rattle.sq_plan.specs.declared.fault.PlanFault.{PlanFault}
use Rattle.sq_plan.specs.PlanValue.{PlanValue}
use Rattle.sq_plan.specs.Reading.{plan_in}
use Rattle.sq_model.specs.declared.step.Step.{Step}
use Rattle.sq_model.specs.declared.step.Step.TheVariants.{Submit}
use Rattle.sq_text.specs.declared.fault.LineFault.{LineFault}
use Rattle.sq_text.specs.declared.fault.LineFault.TheVariants as line
use Rattle.sq_text.specs.declared.step.TheConstants.{MAX_LINE}
use Rattle.sq_text.specs.Numbers.{unsigned_in}
use Rattle.sq_text.specs.Words.{words_of}
use Rattle.sq_text.specs.Steps.{step_of, begins_txn}
use Rattle.sq_serving.specs.declared.serve_line.ServeLine.{ServeLine}
use Rattle.sq_serving.specs.declared.serve_line.ServeLine.TheVariants as asks
use Rattle.sq_serving.specs.declared.serve_fault.ServeFault.{ServeFault}
use Rattle.sq_serving.specs.declared.serve_fault.ServeFault.TheVariants.{NotAServeLine, TooLong, Txn, Plan, Memory}

-- how a line with this request begins
abbrev pub beginning : ServeLine → List ℕ
beginning (asks.Job part txn) = codes "txn"
beginning (asks.Move plan) = codes "move"
beginning asks.Fold = codes "fold"
beginning asks.Status = codes "status"
beginning asks.StatusJson = codes "status json"
beginning asks.Rows = codes "rows"
beginning (asks.RowsTo name) = codes "rows"
beginning asks.Plan = codes "plan"
beginning asks.Pause = codes "pause"
beginning asks.Resume = codes "resume"
beginning (asks.Pumps count) = codes "pumps"
beginning (asks.Chunk bytes) = codes "chunk"
beginning asks.Drop = codes "drop"
beginning (asks.Owner root) = codes "owner"

-- what a line asks that is its beginning alone
unfoldable pub word_alone : List ℕ → Option ServeLine
word_alone line =
    find (λ asks. bytes_eq line (beginning asks))
    (asks.Fold ∷ asks.Status ∷ asks.StatusJson ∷ asks.Rows ∷ asks.Plan ∷ asks.Pause ∷ asks.Resume ∷ asks.Drop ∷ [])

-- what is asked with a number, if there is one
abbrev pub with_number : (ℕ → Result ServeLine ServeFault) → Option ℕ → Result ServeLine ServeFault
with_number asks (Some number) = asks number
with_number asks None = Err NotAServeLine

abbrev pub pumps_to : ℕ → Result ServeLine ServeFault
pumps_to count = Ok (asks.Pumps count)

abbrev pub chunk_to : ℕ → Result ServeLine ServeFault
chunk_to bytes = Ok (asks.Chunk bytes)

-- the owner of a root key
abbrev pub owner_of : ℕ → Result ServeLine ServeFault
owner_of root = if nat_lt root ROOT_END then Ok (asks.Owner root) else Err NotAServeLine

-- what a line asks that is a word and a number
unfoldable pub numbered : List ℕ → Option (Result ServeLine ServeFault)
numbered line =
    if starts_with nat_eq line (codes "pumps ") then Some (with_number pumps_to (unsigned_in (drop 6 line)))
    else (if starts_with nat_eq line (codes "chunk ") then Some (with_number chunk_to (unsigned_in (drop 6 line)))
    else (if starts_with nat_eq line (codes "owner ") then Some (with_number owner_of (unsigned_in (drop 6 line)))
    else None))

-- the move to the plan that a text spells
abbrev pub move_to : Result PlanValue PlanFault → Result ServeLine ServeFault
move_to (Ok plan) = Ok (asks.Move plan)
move_to (Err fault) = Err (Plan fault)

-- the rows go into the file that a text names, if it is UTF-8
abbrev pub rows_to : List ℕ → Result ServeLine ServeFault
rows_to name = if is_utf8 name then Ok (asks.RowsTo name) else Err NotAServeLine

-- the job of a line, by the step that it spells
abbrev pub job_of_step : Result Step LineFault → Result ServeLine ServeFault
job_of_step (Ok (Submit part txn)) = Ok (asks.Job part txn)
job_of_step (Ok step) = Err NotAServeLine
job_of_step (Err line.NotAStep) = Err NotAServeLine
job_of_step (Err line.TooLong) = Err TooLong
job_of_step (Err (line.Txn fault)) = Err (Txn fault)
job_of_step (Err line.Memory) = Err Memory

-- what the word asks, or the word with a number, or else the job
abbrev pub word_or_job : Option ServeLine → Option (Result ServeLine ServeFault) → Result Step LineFault → Result ServeLine ServeFault
word_or_job (Some asks) numbered step = Ok asks
word_or_job None (Some asks) step = asks
word_or_job None None step = job_of_step step

-- what a line asks, for a schema with this many tables
abbrev pub serve_line_of : ℕ → List ℕ → Result ServeLine ServeFault
serve_line_of tables line =
    if nat_lt MAX_LINE (length line) then Err TooLong
    else (if starts_with nat_eq line (codes "move ") then move_to (plan_in (drop (length (codes "move ")) line))
    else (if starts_with nat_eq line (codes "rows ") then rows_to (drop (length (codes "rows ")) line)
    else word_or_job (word_alone line) (numbered line) (step_of tables line)))

-- what is wanted was read, unless memory ran out
abbrev pub IsServeLine : Result ServeLine ServeFault → Result ServeLine ServeFault → Type 0
IsServeLine (Err Memory) wanted = Unit {0}
IsServeLine read wanted = read ≡ wanted

-- reading the line takes memory: it begins with the word txn, move or rows
abbrev pub TakesMemory : List ℕ → Type 0
TakesMemory line =
    (begins_txn (words_of line) ≡ true)
    ⊎ ((starts_with nat_eq line (codes "move ") ≡ true) ⊎ (starts_with nat_eq line (codes "rows ") ≡ true))
