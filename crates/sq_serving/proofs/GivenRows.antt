-- How the rows of an engine are given.
use Rattle.std.proofs.Common.{⊎_elim, inl, inr, ℕ, Bool, List}
use Rattle.std.specs.Prelude.{◌⊎◌, Option, None, Some}
use Rattle.sq_engine.specs.Values.{EngineValue}
use Rattle.sq_engine.specs.declared.engine.NotEnded.{NotEnded}
use Rattle.sq_engine.specs.declared.engine.NotEnded.TheVariants as why
use Rattle.sq_engine.specs.Engine.{Keeps, IsNotEnded}
use Rattle.sq_serving.specs.declared.desk.AskedRows.{AskedRows}
use Rattle.sq_serving.specs.Becoming.{ServeDeskValue, Speaks, WritesBytes}
use Rattle.sq_serving.specs.Rows.{RowsAreGiven, TellsRows, TellsRowsOrSpeaks, not_ended_line, WithholdsRows, AnswersRows}
use Rattle.sq_serving.proofs.Answered.{saved_speaks, not_ended_speaks}

module _ (saves : List ℕ → List ℕ → Bool → Type 0) where
  -- the rows that are given are written as lines, or other lines are
  given_tells : (engine : EngineValue) (file : Option (List ℕ)) (before after : ServeDeskValue)
      → RowsAreGiven saves engine file before after → TellsRows engine before after ⊎ Speaks before after
  given_tells engine None before after given =
      inl (record { stores = given.stores; lent = given.lent; lines = given.lines; is = given.is; told = given.gives })
  given_tells engine (Some name) before after given = inr (saved_speaks given.gives.0 given.lines before after given.gives.2)

  pub rows_are_told : (old new : EngineValue) (asked : AskedRows) (before after : ServeDeskValue) → Keeps old new
      → RowsAreGiven saves new asked.file before after ⊎ WritesBytes (not_ended_line why.Memory asked.place) before after
      → TellsRowsOrSpeaks old before new after
  rows_are_told old new asked before after keeps gives = (
    keeps,
    ⊎_elim (λ given. given_tells new asked.file before after given)
        (λ says. inr (not_ended_speaks why.Memory asked.place before after says)) gives,
  )

  -- a line that asks for rows is answered
  pub rows_answered : (old new : EngineValue) (asked : AskedRows) (before after : ServeDeskValue)
      → RowsAreGiven saves new asked.file before after ⊎ WritesBytes (not_ended_line why.Memory asked.place) before after
      → AnswersRows saves asked old before new after
  rows_answered old new asked before after gives = ⊎_elim (λ given. inl given) (λ says. inr (why.Memory, tt, says)) gives

-- why an epoch isn't ended: rows move, or memory ran out
pub not_ended_withholds : (old : EngineValue) (reason : NotEnded) (new : EngineValue) → IsNotEnded reason old new → WithholdsRows old reason
not_ended_withholds old why.Moving new is = is.1
not_ended_withholds old why.Memory new is = tt
