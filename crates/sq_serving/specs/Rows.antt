-- The rows of an engine that is served.
use Rattle.std.specs.Prelude.{◌≡◌, ◌⊎◌, ℕ, Bool, true, false, List, [], Option, None, Some, IfSome}
use Rattle.std.specs.List.{flat_map}
use Rattle.sq_store.specs.StoreValue.{StoreValue}
use Rattle.sq_store.specs.InOrder.{families_in}
use Rattle.sq_results.specs.Standing.{WritesRows}
use Rattle.sq_schema.specs.Fault.{memory_number}
use Rattle.sq_text.specs.Texts.{refused_line}
use Rattle.sq_engine.specs.Values.{EngineValue}
use Rattle.sq_engine.specs.declared.engine.NotEnded.{NotEnded}
use Rattle.sq_engine.specs.declared.engine.NotEnded.TheVariants as unended
use Rattle.sq_engine.specs.Engine.{Keeps, rests, rows_in}
use Rattle.sq_serving.specs.declared.line_place.LinePlace.{LinePlace}
use Rattle.sq_serving.specs.declared.serve_answer.ServeAnswer.TheVariants.{Fault, Rows}
use Rattle.sq_serving.specs.ServeAnswers.{serve_answer_line}
use Rattle.sq_serving.specs.declared.desk.AskedRows.{AskedRows}
use Rattle.sq_serving.specs.Saying.{lines_in, rows_told}
use Rattle.sq_serving.specs.Becoming.{ServeDeskValue, Speaks, WritesBytes}

-- a text has a line for each row in stores, by rising root key and then by key
abbrev pub IsRowsText : List StoreValue → List ℕ → Type 0
IsRowsText stores text = WritesRows (flat_map families_in stores) (Some []) (Some text)

-- the line that answers rows that were to be saved
abbrev pub saved_line : Bool → List ℕ → List ℕ
saved_line true lines = serve_answer_line (Rows (lines_in lines))
saved_line false lines = refused_line 124

-- the rows in stores were left, a line for each; or no lines were, since memory ran out
abbrev pub LeavesStores : (Option (List ℕ) → Type 0) → List StoreValue → Type 0
LeavesStores leaves stores =
    (lines : Option (List ℕ)) × IfSome lines (IsRowsText stores) × leaves lines

-- the same of stores, if there are any
abbrev pub LeavesRows : (Option (List ℕ) → Type 0) → Option (List StoreValue) → Type 0
LeavesRows leaves (Some stores) = LeavesStores leaves stores
LeavesRows leaves None = Unit {0}

-- the lines of rows were written; or they were to be saved under a name, and one line reports the
-- outcome
abbrev pub GivesRows : (List ℕ → List ℕ → Bool → Type 0) → Option (List ℕ) → List ℕ → ServeDeskValue → ServeDeskValue → Type 0
GivesRows saves None lines before after = WritesBytes (rows_told lines) before after
GivesRows saves (Some name) lines before after = (saved : Bool) × saves name lines saved × WritesBytes (saved_line saved lines) before after

-- the same of the lines of an engine's rows
pub record RowsAreGiven (saves : List ℕ → List ℕ → Bool → Type 0) (engine : EngineValue) (file : Option (List ℕ))
    (before after : ServeDeskValue) : Type 0 where
  pub stores : List StoreValue
  pub lent : rows_in engine ≡ Some stores
  pub lines : List ℕ
  pub is : IsRowsText stores lines
  pub gives : GivesRows saves file lines before after

-- the one line that refuses rows
abbrev pub not_ended_line : NotEnded → LinePlace → List ℕ
not_ended_line unended.Moving place = refused_line 217
not_ended_line unended.Memory place = serve_answer_line (Fault memory_number place.line None)

-- why the rows of an engine can't be had: rows move, or memory ran out
abbrev pub WithholdsRows : EngineValue → NotEnded → Type 0
WithholdsRows engine unended.Moving = rests engine ≡ false
WithholdsRows engine unended.Memory = Unit {0}

-- a line that asks for rows is answered by them, or by one line with the reason why not
abbrev pub AnswersRows : (List ℕ → List ℕ → Bool → Type 0) → AskedRows → EngineValue → ServeDeskValue → EngineValue → ServeDeskValue → Type 0
AnswersRows saves asked old before new after =
    RowsAreGiven saves new asked.file before after
    ⊎ ((why : NotEnded) × WithholdsRows old why × WritesBytes (not_ended_line why asked.place) before after)

-- the rows of an engine were written
pub record TellsRows (engine : EngineValue) (before after : ServeDeskValue) : Type 0 where
  pub stores : List StoreValue
  pub lent : rows_in engine ≡ Some stores
  pub lines : List ℕ
  pub is : IsRowsText stores lines
  pub told : WritesBytes (rows_told lines) before after

-- an engine continued, and either its rows or other lines were written
abbrev pub TellsRowsOrSpeaks : EngineValue → ServeDeskValue → EngineValue → ServeDeskValue → Type 0
TellsRowsOrSpeaks old before new after = Keeps old new × (TellsRows new before after ⊎ Speaks before after)
