-- Worlds with one row, in which only a move takes place.
use Rattle.std.specs.Prelude.{◌≡◌, ℤ, Bool, true, false, [], ◌∷◌}
use Rattle.sq_schema.specs.Effect.{RowList, root_key}
use Rattle.sq_moves.specs.OpeningValue.{OpeningValue}
use Rattle.sq_moves.specs.Opening.{IsOpening}
use Rattle.sq_model.specs.declared.step.Step.{Step}
use Rattle.sq_model.specs.declared.step.Step.TheVariants.{Submit, Resume}
use Rattle.sq_model.specs.Trace.{Trace, committed}
use Rattle.sq_model.specs.Tables.{opening_rows}
use Rattle.sq_model.specs.Legal.{IsLegal}
use Rattle.sq_transition.specs.WorldValue.{WorldValue}
use Rattle.sq_transition.specs.Holds.{Holds}

-- the step runs no transaction
abbrev pub is_of_the_move : Step → Bool
is_of_the_move (Submit part txn) = false
is_of_the_move (Resume part) = false
is_of_the_move _ = true

-- a root row with this number, without a note
abbrev pub root_row : ℤ → RowList
root_row number = (root_key, record { number = number; note = [] }) ∷ []

-- a legal history without a committed transaction leads to the world, from an opening in which root
-- key 5 has this row
pub record LeadsWithRow (number : ℤ) (w : WorldValue) : Type 0 where
  pub opening : OpeningValue
  pub trace : Trace
  pub is_opening : IsOpening opening
  pub row : opening_rows opening 5 ≡ root_row number
  pub legal : IsLegal opening trace
  pub holds : Holds opening trace w
  pub none_committed : committed trace ≡ []
