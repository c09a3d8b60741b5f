-- A pump that is driven, turn by turn.
use Rattle.std.proofs.Common.{◌≡◌, ℕ, List, ◌∷◌, [], map, Option, Some, None, inl, inr, refl, sym, ap, ◌∙◌, subst, ⊎_elim, Result, Ok, Err}
use Rattle.std.specs.Prelude.{IfOk, OnErr, MatchOption, slice_get}
use Rattle.atomic_table.specs.Seated.{TableId}
use Rattle.sq_moves.specs.ReconValue.{ReconValue}
use Rattle.sq_shared.specs.declared.pump.PumpTurn.{PumpTurn}
use Rattle.sq_shared.specs.declared.pump.PumpTurn.TheVariants.{Won, Nothing, Spent}
use Rattle.sq_shared.specs.Seat.{SeatValue}
use Rattle.sq_shared.specs.Seats.{AreSeatsOf, OnlyClaimed, begun_by, completed_by}
use Rattle.sq_shared.specs.Pump.{PumpValue, HasTurned, StaysPump, PutsOff, SplitsAt, SplitsNext, SkipsNext, HasNoRound}
use Rattle.sq_node.specs.FabricValue.{FabricValue}
use Rattle.sq_driver.specs.Pumps.{HasAllSeats, PumpDriven}
use Rattle.sq_driver.specs.Laws.{pump_no_turn}

turn_number : (recon : ReconValue) (old new : PumpValue) (turn : PumpTurn) → HasTurned recon old new turn → new.number ≡ old.number
turn_number recon old new (Won seg n) turned = turned.2.number ∙ turned.1.number
turn_number recon old new Nothing turned =
    turned.2.number ∙ ⊎_elim (λ (skips : SkipsNext old turned.0). skips.number) (λ (none : HasNoRound old turned.0). ap (λ (p : PumpValue). p.number) none.same) turned.1
turn_number recon old new Spent turned = turned.2.number ∙ ap (λ (p : PumpValue). p.number) turned.1.1

-- what a turn makes of a pump
pub turned : {E : Type 0} (fabric : FabricValue) (recon : ReconValue) (trees : List TableId) (old new : PumpValue) (result : Result PumpTurn E) → recon ≡ fabric.recon → trees ≡ fabric.trees
    → IfOk result (HasTurned recon old new) → OnErr result (new ≡ old) → HasAllSeats fabric old → AreSeatsOf trees new.seats → OnlyClaimed old.seats new.seats → PumpDriven fabric old new
turned fabric recon trees old new (Ok turn) moves at has none of seats claims =
    record {
      turns = (old ∷ [], (refl, inl (turn, subst (λ (r : ReconValue). HasTurned r old new turn) moves has)));
      number = turn_number recon old new turn has;
      stays = seats ∙ at;
      claims = claims;
    }
turned fabric recon trees old new (Err e) moves at has same of seats claims = subst (PumpDriven fabric old) (sym same) (pump_no_turn fabric old of)

-- a segment that is put off makes no other difference to a pump
pub put_off_once : (fabric : FabricValue) (old new : PumpValue) → HasAllSeats fabric old → PutsOff old new → PumpDriven fabric old new
put_off_once fabric old new of puts =
    record {
      turns = (old ∷ [], (refl, inr (inl puts)));
      number = ap (λ (p : PumpValue). p.number) puts;
      stays = ap (λ (p : PumpValue). map (λ (seat : SeatValue). seat.tree) p.seats) puts ∙ of;
      claims = record { begun = ap (λ (p : PumpValue). begun_by p.seats) puts; completed = ap (λ (p : PumpValue). completed_by p.seats) puts };
    }

split_number : (node : ℕ) (old new : PumpValue) (next : Option ℕ) → MatchOption next (new ≡ old) (λ seg. SplitsAt seg node old new) → new.number ≡ old.number
split_number node old new None same = ap (λ (p : PumpValue). p.number) same
split_number node old new (Some seg) splits = ap (λ (p : PumpValue). p.number) splits.same

-- nor does a node that is split, but to the seats
pub split_once : (fabric : FabricValue) (trees : List TableId) (node : ℕ) (old new : PumpValue) → trees ≡ fabric.trees → SplitsNext node old new → StaysPump trees old new → PumpDriven fabric old new
split_once fabric trees node old new at splits stays =
    record {
      turns = (old ∷ [], (refl, inr (inr (node, splits))));
      number = split_number node old new (slice_get old.round 0) splits;
      stays = stays.seats ∙ at;
      claims = stays.work;
    }
