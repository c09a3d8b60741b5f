-- What a reader that inserts another one has left.
use Rattle.std.specs.Prelude.{ℕ, Bool, List, ◌++◌, Option, Some, None}
use Rattle.sq_input.specs.Inputs.{ended, inserted_text}
use Rattle.sq_input.specs.declared.inserting.Inserting.{Inserting}
use Rattle.sq_input.specs.declared.inserting.Place.{Place}
use Rattle.sq_input.specs.declared.inserting.Place.TheVariants.{FirstLine, Inserted, Rest}

-- what is left of both readers after the first line; `at_start` is whether the other one is at the
-- start of a line
abbrev pub ended_text : Bool → Option (List ℕ) → Option (List ℕ) → Option (List ℕ)
ended_text at_start None others = None
ended_text at_start (Some bytes) None = None
ended_text at_start (Some bytes) (Some others) = Some (ended at_start others ++ bytes)

-- what is left at this place
abbrev pub left_at : Place → Option (List ℕ) → Option (List ℕ) → Option (List ℕ)
left_at FirstLine main others = inserted_text main others
left_at (Inserted at_start) main others = ended_text at_start main others
left_at Rest main others = main

-- what is left, if it is known what both readers have left
abbrev pub inserting_remaining : {M W : Type 0} → (M → Option (List ℕ)) → (W → Option (List ℕ)) → Inserting M W → Option (List ℕ)
inserting_remaining main others r = left_at r.place (main r.main) (others r.inserted)
