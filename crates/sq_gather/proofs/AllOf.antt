-- What a run opens with is all of it, and its pumps stay its pumps.
use Rattle.std.proofs.Common.{◌≡◌, ℕ, ◌+◌, false, List, [], length, map, Option, Some, None, refl, sym, ap, ◌∙◌, subst, arith}
use Rattle.std.specs.Prelude.{slice_get}
use Rattle.std.specs.Option.{option_map_or}
use Rattle.std.specs.List.{range_with_len}
use Rattle.std.proofs.lemmas.List.{length-map}
use Rattle.std.proofs.lemmas.List.FromFn.{length-range_with_len}
use Rattle.atomic_table.specs.Seated.{TableId}
use Rattle.sq_moves.specs.OpeningValue.{OpeningValue}
use Rattle.sq_store.specs.StoreValue.{StoreValue}
use Rattle.sq_exec.specs.CoreValue.{CoreValue}
use Rattle.sq_exec.specs.Opened.{opened_part}
use Rattle.sq_shared.specs.declared.view.View.{View}
use Rattle.sq_shared.specs.View.{fresh}
use Rattle.sq_shared.specs.Seat.{SeatValue}
use Rattle.sq_shared.specs.Seats.{AreSeatsOf, OnlyClaimed}
use Rattle.sq_shared.specs.Pump.{PumpValue}
use Rattle.sq_node_model.proofs.Lists.{map_at, at_map}
use Rattle.sq_node.specs.FabricValue.{FabricValue}
use Rattle.sq_node.specs.NodeState.{NodeState}
use Rattle.sq_node.specs.Opened.{AreFirstSeats, AreNewSeats, IsFabricOf, AreNewNodes, AreNewPumps, IsOpened, opened_stores}
use Rattle.sq_gather.specs.Gathered.{IsPumpOf, AreAllOf, InPartOrder}

-- seats that have done nothing began and completed nothing
began_none : (trees : List TableId) (seats : List SeatValue) → AreNewSeats trees seats → (seg : ℕ) (found : Option SeatValue) → slice_get seats seg ≡ found → (option_map_or (λ (seat : SeatValue). seat.view) found (fresh false false)).begun ≡ []
began_none trees seats new seg None is = refl
began_none trees seats new seg (Some seat) is = ap (λ (v : View). v.begun) (new.each seg seat is)

completed_none : (trees : List TableId) (seats : List SeatValue) → AreNewSeats trees seats → (seg : ℕ) (found : Option SeatValue) → slice_get seats seg ≡ found → (option_map_or (λ (seat : SeatValue). seat.view) found (fresh false false)).completed ≡ []
completed_none trees seats new seg None is = refl
completed_none trees seats new seg (Some seat) is = ap (λ (v : View). v.completed) (new.each seg seat is)

pub new_pump_of : (fabric : FabricValue) (pump : PumpValue) → AreNewSeats fabric.trees pump.seats → IsPumpOf fabric pump
new_pump_of fabric pump new =
    record {
      seats = new.of;
      begun = λ seg. began_none fabric.trees pump.seats new seg (slice_get pump.seats seg) refl;
      completed = λ seg. completed_none fabric.trees pump.seats new seg (slice_get pump.seats seg) refl;
    }

-- new nodes are in the order of their partitions
pub new_in_order : (o : OpeningValue) (fabric : FabricValue) (stores : List StoreValue) (nodes : List NodeState) → AreNewNodes o fabric stores nodes → InPartOrder nodes
new_in_order o fabric stores nodes new part node there = ap (λ (core : CoreValue). core.part) (new.each part node there).core

-- new nodes of all partitions and new pumps are all of a run whose seats were all given to them
pub all_of_new : (o : OpeningValue) (count : ℕ) (stores : List StoreValue) (fabric : FabricValue) (nodes : List NodeState) (pumps : List PumpValue) → IsFabricOf o fabric → length stores ≡ o.old.parts
    → AreFirstSeats (o.old.parts + count) fabric.trees fabric.seats → AreNewNodes o fabric stores nodes → AreNewPumps fabric count pumps → AreAllOf fabric nodes pumps
all_of_new o count stores fabric nodes pumps shared whole seats each_node each_pump =
    record {
      seats = subst (λ (given : ℕ). AreFirstSeats given fabric.trees fabric.seats) (omega (arith, each_node.all, whole, each_pump.all)) seats;
      count = each_node.all ∙ whole ∙ sym shared.parts;
      apart = λ i j one other one_there other_there same.
          let order = new_in_order o fabric stores nodes each_node in
          sym (order i one one_there) ∙ same ∙ order j other other_there;
      each_node = λ part node there. (each_node.each part node there).of;
      each_pump = λ i pump there. new_pump_of fabric pump (each_pump.each i pump there).seats;
    }

-- what a run opens with is all of it
pub all_of_opened : (o : OpeningValue) (count : ℕ) (fabric : FabricValue) (nodes : List NodeState) (pumps : List PumpValue) → IsOpened o count fabric nodes pumps → AreAllOf fabric nodes pumps
all_of_opened o count fabric nodes pumps opened =
    all_of_new o count (opened_stores o) fabric nodes pumps opened.shared
    (length-map (range_with_len 0 o.old.parts) (λ part. (opened_part o part).store) ∙ length-range_with_len 0 o.old.parts)
    opened.seats opened.each_node opened.each_pump

-- what the seat of a segment began is what it had begun, where all together have
seat_before : (part : SeatValue → List (ℕ × ℕ)) (old new : List SeatValue) → map part new ≡ map part old → (seg : ℕ) (seat : SeatValue) → slice_get new seg ≡ Some seat → (before : SeatValue) × (slice_get old seg ≡ Some before) × (part before ≡ part seat)
seat_before part old new same seg seat there = map_at part old seg (part seat) (ap (λ (list : List (List (ℕ × ℕ))). slice_get list seg) (sym same) ∙ at_map part new seg seat there)

-- a pump that only claimed is one of the run still
pub pump_claimed : (fabric : FabricValue) (old new : PumpValue) → IsPumpOf fabric old → AreSeatsOf fabric.trees new.seats → OnlyClaimed old.seats new.seats → IsPumpOf fabric new
pump_claimed fabric old new is of claimed =
    record {
      seats = of;
      begun = λ seg. begun_at seg (slice_get new.seats seg) refl;
      completed = λ seg. completed_at seg (slice_get new.seats seg) refl;
    }
  where
    begun_at : (seg : ℕ) (found : Option SeatValue) → slice_get new.seats seg ≡ found → (option_map_or (λ (seat : SeatValue). seat.view) found (fresh false false)).begun ≡ []
    begun_at seg None there = refl
    begun_at seg (Some seat) there =
        let was = seat_before (λ (seat : SeatValue). seat.view.begun) old.seats new.seats claimed.begun seg seat there in
        sym was.2 ∙ ap (λ (found : Option SeatValue). (option_map_or (λ (seat : SeatValue). seat.view) found (fresh false false)).begun) (sym was.1) ∙ is.begun seg

    completed_at : (seg : ℕ) (found : Option SeatValue) → slice_get new.seats seg ≡ found → (option_map_or (λ (seat : SeatValue). seat.view) found (fresh false false)).completed ≡ []
    completed_at seg None there = refl
    completed_at seg (Some seat) there =
        let was = seat_before (λ (seat : SeatValue). seat.view.completed) old.seats new.seats claimed.completed seg seat there in
        sym was.2 ∙ ap (λ (found : Option SeatValue). (option_map_or (λ (seat : SeatValue). seat.view) found (fresh false false)).completed) (sym was.1) ∙ is.completed seg
