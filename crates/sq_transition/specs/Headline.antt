-- The headline: the history is legal and its moves are orderly, and the world is the one that it
-- leads to.
use Rattle.std.specs.Prelude.{◌≡◌, ℕ}
use Rattle.sq_plan.specs.PlanValue.{owner}
use Rattle.sq_moves.specs.OpeningValue.{OpeningValue}
use Rattle.sq_model.specs.Trace.{Trace}
use Rattle.sq_model.specs.Place.{At, place}
use Rattle.sq_model.specs.Legal.{IsLegal}
use Rattle.sq_model.specs.Orderly.{IsOrderly}
use Rattle.sq_transition.specs.WorldValue.{WorldValue}
use Rattle.sq_transition.specs.Holds.{Holds}

pub record KeepsHeadline (o : OpeningValue) (t : Trace) (w : WorldValue) : Type 0 where
  pub legal : IsLegal o t
  pub orderly : IsOrderly o t
  pub holds : Holds o t w

-- each root key is at its owner in the new plan
abbrev pub IsAsPlanned : OpeningValue → Trace → Type 0
IsAsPlanned o t = (root : ℕ) → place o t root ≡ At (owner o.new root)
