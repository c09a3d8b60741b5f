-- Scripts that perform a whole move, and what is written for a header.
use Rattle.std.specs.Prelude.{◌≡◌, ◌⊎◌, ℕ, Bool, true, false, List, [], All, map, Option, None, Ok}
use Rattle.std.specs.List.{flat_map}
use Rattle.sq_moves.specs.OpeningValue.{OpeningValue}
use Rattle.sq_moves.specs.Opening.{IsOpening}
use Rattle.sq_model.specs.declared.step.Phase.TheVariants.{Ended}
use Rattle.sq_model.specs.declared.answer.Answer.{Answer}
use Rattle.sq_model.specs.declared.answer.Answer.TheVariants.{Refused}
use Rattle.sq_model.specs.Leader.{phase}
use Rattle.sq_model.specs.Legal.{answers, after}
use Rattle.sq_text.specs.Pieces.{PieceValue}
use Rattle.sq_text.specs.Coming.{LinesValue}
use Rattle.sq_text.specs.declared.located.LocatedFault.{LocatedFault}
use Rattle.sq_text.specs.declared.input_fault.InputFault.TheVariants.{Memory, TooLong}
use Rattle.sq_text.specs.Located.{located}
use Rattle.sq_text.specs.Header.{header_of, Opens}
use Rattle.sq_world.specs.declared.ending.Ending.{Ending}
use Rattle.sq_world.specs.declared.ending.Ending.TheVariants.{Done}
use Rattle.sq_world.specs.Inputs.{Writing, OfLines, OfReader}
use Rattle.sq_world.specs.Run.{IsFault, IsRefused}
use Rattle.sq_world.specs.declared.move_step.MoveStep.{MoveStep}
use Rattle.sq_world.specs.declared.no_script.NoScript.{NoScript}
use Rattle.sq_world.specs.declared.no_script.NoScript.TheVariants as no_script
use Rattle.sq_world.specs.Lines.{step_of_move, move_line, IsReadBack}

-- the answer is a refusal
abbrev pub is_refusal : Answer → Bool
is_refusal (Refused refusal) = true
is_refusal _ = false

-- none of the steps is refused, unless memory runs out
abbrev pub NoneRefused : OpeningValue → List MoveStep → Type 0
NoneRefused o steps = All (λ given. is_refusal given ≡ false) (answers o [] (map step_of_move steps))

-- the lines are of steps that a script reads and that perform the whole move from this opening:
-- unless memory runs out none of them is refused, and the move has ended at the end
pub record IsScriptOf (o : OpeningValue) (text : List ℕ) : Type 0 where
  pub is_opening : IsOpening o
  pub steps : List MoveStep
  pub says : text ≡ flat_map move_line steps
  pub are_read : All IsReadBack steps
  pub none_refused : NoneRefused o steps
  pub ended : phase (after o [] (map step_of_move steps)) ≡ Ended

-- the fault that is written in place of a script
abbrev pub fault_of : NoScript → LocatedFault
fault_of no_script.Memory = located Memory None
fault_of no_script.TooLong = located TooLong None

-- a script of this opening was written, or that memory ran out, or that it has too many lines
abbrev pub IsScriptFrom : OpeningValue → List ℕ → Ending → Type 0
IsScriptFrom o out ending =
    (IsScriptOf o out × (ending ≡ Done)) ⊎ ((why : NoScript) × IsFault (fault_of why) out ending)

-- the header spells an opening, and this was written for it
pub record IsForHeader (tables : ℕ) (given : List PieceValue) (out : List ℕ) (ending : Ending) : Type 0 where
  pub opening : OpeningValue
  pub left : List PieceValue
  pub header : Opens tables (Ok opening) left (header_of tables given)
  pub wrote : IsScriptFrom opening out ending

-- what is written for the pieces of an input: a script of the opening that its header spells, or
-- the fault of the header
abbrev pub IsForInput : ℕ → List PieceValue → List ℕ → Ending → Type 0
IsForInput tables given out ending = IsForHeader tables given out ending ⊎ IsRefused tables given out ending

-- what is written for an opening is appended to what a writer holds
abbrev pub WritesScriptFrom : OpeningValue → Option (List ℕ) → Option (List ℕ) → Ending → Type 0
WritesScriptFrom o = Writing (IsScriptFrom o)

-- the same for pieces that a reader of lines may return
abbrev pub WritesScriptOf : ℕ → LinesValue → Option (List ℕ) → Option (List ℕ) → Ending → Type 0
WritesScriptOf tables = OfLines (IsForInput tables)

-- the same for what a reader returns
abbrev pub WritesScript : ℕ → Option (List ℕ) → Option (List ℕ) → Option (List ℕ) → Ending → Type 0
WritesScript tables = OfReader (IsForInput tables)
