-- A script that is being written.
use Rattle.std.specs.Prelude.{◌≡◌, List, [], All, map}
use Rattle.std.specs.List.{flat_map}
use Rattle.sq_moves.specs.OpeningValue.{OpeningValue}
use Rattle.sq_model.specs.Legal.{after}
use Rattle.sq_world.specs.Script.{LeadsTo}
use Rattle.sq_world.specs.declared.draft.Draft.{Draft}
use Rattle.sq_world.specs.declared.move_step.MoveStep.{MoveStep}
use Rattle.sq_world.specs.Lines.{step_of_move, move_line, IsReadBack}
use Rattle.sq_world.specs.Scripts.{NoneRefused}

-- the text is of steps that a script reads, none of them was refused, and they lead to the world
-- from this opening
pub record IsDraftOf (o : OpeningValue) (draft : Draft) : Type 0 where
  pub steps : List MoveStep
  pub says : draft.text.items ≡ flat_map move_line steps
  pub are_read : All IsReadBack steps
  pub none_refused : NoneRefused o steps
  pub leads : LeadsTo o (after o [] (map step_of_move steps)) draft.world

-- a draft continues, whatever its opening
abbrev pub DraftGoesOn : Draft → Draft → Type 0
DraftGoesOn old new = (o : OpeningValue) → IsDraftOf o old → IsDraftOf o new
