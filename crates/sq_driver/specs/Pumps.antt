-- How driven pumps change.
use Rattle.std.specs.Prelude.{◌≡◌, ◌⊎◌, ℕ, List}
use Rattle.sq_moves.specs.ReconValue.{ReconValue}
use Rattle.sq_shared.specs.declared.pump.PumpTurn.{PumpTurn}
use Rattle.sq_shared.specs.Seats.{AreSeatsOf, OnlyClaimed}
use Rattle.sq_shared.specs.Pump.{PumpValue, HasTurned, PutsOff, SplitsNext}
use Rattle.sq_node.specs.FabricValue.{FabricValue}
use Rattle.sq_driver.specs.Ways.{ComesStepByStep, EachDriven}

-- a pump with a seat at each tree of a run
abbrev pub HasAllSeats : FabricValue → PumpValue → Type 0
HasAllSeats fabric pump = AreSeatsOf fabric.trees pump.seats

-- a pump took a turn, put its next segment off, or split a node of it
abbrev pub TakesTurn : ReconValue → PumpValue → PumpValue → Type 0
TakesTurn recon old new =
    ((turn : PumpTurn) × HasTurned recon old new turn) ⊎ (PutsOff old new ⊎ ((node : ℕ) × SplitsNext node old new))

-- a pump was driven: it changed by its own turns, has the same number and still belongs to the
-- fabric, and its seats began and completed nothing more
pub record PumpDriven (fabric : FabricValue) (old new : PumpValue) : Type 0 where
  pub turns : ComesStepByStep (TakesTurn fabric.recon) old new
  pub number : new.number ≡ old.number
  pub stays : HasAllSeats fabric new
  pub claims : OnlyClaimed old.seats new.seats

-- each of the pumps was driven
abbrev pub AllPumpsDriven : FabricValue → List PumpValue → List PumpValue → Type 0
AllPumpsDriven fabric old new = EachDriven (PumpDriven fabric) old new
