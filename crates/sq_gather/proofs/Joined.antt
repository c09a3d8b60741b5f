-- First seats once the seats of all owners are joined into them.
use Rattle.std.proofs.Common.{◌≡◌, ℕ, ◌+◌, List, [], ◌∷◌, ◌++◌, length, map, fold, Some, refl, sym, ap, ◌∙◌, append_assoc, append-nil, arith}
use Rattle.std.specs.Prelude.{slice_get}
use Rattle.std.specs.List.{flat_map}
use Rattle.std.proofs.lemmas.List.{length-map}
use Rattle.std.proofs.lemmas.Option.{same_Some, slice_get_within}
use Rattle.sq_moves.specs.declared.status.Status.{Status}
use Rattle.sq_shared.specs.declared.view.View.{View}
use Rattle.sq_shared.specs.View.{took}
use Rattle.sq_shared.specs.Seat.{SeatValue}
use Rattle.sq_node_model.proofs.Lists.{stands_at}
use Rattle.sq_node.specs.NodeState.{views_of}
use Rattle.sq_gather.specs.Trees.{AwaitOwners, AreJoined, AreWhole, AreTreesOf, AreClosed, view_with}

pub given_stays : (view : View) (views : List View) → (fold took view views).given ≡ view.given
given_stays view [] = refl
given_stays view (other ∷ views) = given_stays (took view other) views

pub taken_grows : (view : View) (views : List View) → (fold took view views).taken ≡ view.taken + length views
taken_grows view [] = omega arith
taken_grows view (other ∷ views) = omega (arith, taken_grows (took view other) views)

-- what the seat began, and then what each of the others began
pub begun_grows : (view : View) (views : List View) → (fold took view views).begun ≡ view.begun ++ flat_map (λ (view : View). view.begun) views
begun_grows view [] = sym (append-nil view.begun)
begun_grows view (other ∷ views) = begun_grows (took view other) views ∙ append_assoc view.begun other.begun (flat_map (λ (view : View). view.begun) views)

pub completed_grows : (view : View) (views : List View) → (fold took view views).completed ≡ view.completed ++ flat_map (λ (view : View). view.completed) views
completed_grows view [] = sym (append-nil view.completed)
completed_grows view (other ∷ views) = completed_grows (took view other) views ∙ append_assoc view.completed other.completed (flat_map (λ (view : View). view.completed) views)

joined_seat : (first : List SeatValue) (owners : List (List SeatValue)) (joined : List SeatValue) → AreJoined first owners joined → (seg : ℕ) (seat : SeatValue) → slice_get joined seg ≡ Some seat
    → (before : SeatValue) × (slice_get first seg ≡ Some before) × (seat.view ≡ view_with before.view owners seg)
joined_seat first owners joined is seg seat there =
    let lt = slice_get_within joined seg seat there in
    let found : (before : SeatValue) × (slice_get first seg ≡ Some before) = stands_at first seg (omega (arith, is.count)) in
    (found.0, found.1, ap (λ (s : SeatValue). s.view) (same_Some seat (record { tree = found.0.tree; view = view_with found.0.view owners seg }) (sym there ∙ is.each seg found.0 found.1)))

pub joined_whole : (first : List SeatValue) (owners : List (List SeatValue)) (joined : List SeatValue) → AreJoined first owners joined → AwaitOwners (length owners) first → AreWhole joined
joined_whole first owners joined is await seg seat there =
    let was = joined_seat first owners joined is seg seat there in
    let views : List View = map (λ (seats : List SeatValue). views_of seats seg) owners in
    omega (
      arith,
      ap (λ (v : View). v.given) was.2,
      ap (λ (v : View). v.taken) was.2,
      given_stays was.0.view views,
      taken_grows was.0.view views,
      length-map owners (λ (seats : List SeatValue). views_of seats seg),
      await seg was.0 was.1,
    )

pub all_closed : (first : List SeatValue) (owners : List (List SeatValue)) (joined : List SeatValue) (statuses : List (List Status)) → AreJoined first owners joined → AreTreesOf joined statuses → AreClosed first owners statuses
all_closed first owners joined statuses is trees =
    record {
      count = trees.count ∙ is.count;
      each = λ seg seat there. trees.each seg (record { tree = seat.tree; view = view_with seat.view owners seg }) (is.each seg seat there);
    }
