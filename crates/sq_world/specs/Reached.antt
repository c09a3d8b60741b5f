-- The possible worlds: those that a legal history leads to.
use Rattle.sq_moves.specs.OpeningValue.{OpeningValue}
use Rattle.sq_moves.specs.Opening.{IsOpening}
use Rattle.sq_model.specs.Trace.{Trace}
use Rattle.sq_model.specs.Legal.{IsLegal}
use Rattle.sq_transition.specs.WorldValue.{WorldValue}
use Rattle.sq_transition.specs.Holds.{Holds}

-- some legal history of some opening leads to this world
abbrev pub IsReached : WorldValue → Type 0
IsReached w = (o : OpeningValue) × (t : Trace) × IsOpening o × IsLegal o t × Holds o t w
