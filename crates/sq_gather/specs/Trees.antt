-- Trees whose seats were joined into the first seats, and that were then closed.
use Rattle.std.specs.Prelude.{◌≡◌, ℕ, ◌+◌, List, [], ◌∷◌, length, map, fold, slice_get, slice_index_or, Some}
use Rattle.atomic_table.specs.Seated.{TableId}
use Rattle.sq_moves.specs.declared.status.Status.{Status}
use Rattle.sq_shared.specs.declared.view.View.{View}
use Rattle.sq_shared.specs.View.{took}
use Rattle.sq_shared.specs.Seat.{SeatValue}
use Rattle.sq_shared.specs.Rule.{IsTreeOf}
use Rattle.sq_shared.specs.Seats.{AreSeatsOf}
use Rattle.sq_node.specs.NodeState.{views_of}

-- each owner has a seat of each of these trees
abbrev pub AllAreSeatsOf : List TableId → List (List SeatValue) → Type 0
AllAreSeatsOf trees owners = (i : ℕ) (seats : List SeatValue) → slice_get owners i ≡ Some seats → AreSeatsOf trees seats

-- the first seats await exactly the seats of `count` owners: these were given out and not taken
-- back
abbrev pub AwaitOwners : ℕ → List SeatValue → Type 0
AwaitOwners count seats = (seg : ℕ) (seat : SeatValue) → slice_get seats seg ≡ Some seat → seat.view.given ≡ seat.view.taken + count

-- the view of a first seat after the owners' seats of its segment were joined into it, in order
abbrev pub view_with : View → List (List SeatValue) → ℕ → View
view_with view owners seg = fold took view (map (λ seats. views_of seats seg) owners)

-- the seats of these owners were joined into the first seats
pub record AreJoined (old : List SeatValue) (owners : List (List SeatValue)) (new : List SeatValue) : Type 0 where
  pub count : length new ≡ length old
  pub each : (seg : ℕ) (seat : SeatValue) → slice_get old seg ≡ Some seat
      → slice_get new seg ≡ Some (record { tree = seat.tree; view = view_with seat.view owners seg })

-- each seat that was given out was taken back
abbrev pub AreWhole : List SeatValue → Type 0
AreWhole seats = AwaitOwners 0 seats

-- for each seat, the statuses of a tree of which only this seat is left
pub record AreTreesOf (seats : List SeatValue) (statuses : List (List Status)) : Type 0 where
  pub count : length statuses ≡ length seats
  pub each : (seg : ℕ) (seat : SeatValue) → slice_get seats seg ≡ Some seat → IsTreeOf (slice_index_or statuses seg []) (seat.view ∷ [])

-- for each first seat, the statuses of a tree of which only this seat is left, with all that the
-- owners' seats did
pub record AreClosed (first : List SeatValue) (owners : List (List SeatValue)) (statuses : List (List Status)) : Type 0 where
  pub count : length statuses ≡ length first
  pub each : (seg : ℕ) (seat : SeatValue) → slice_get first seg ≡ Some seat
      → IsTreeOf (slice_index_or statuses seg []) (view_with seat.view owners seg ∷ [])
