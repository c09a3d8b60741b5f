-- Seats that are joined into the first seats of their trees.
use Rattle.std.proofs.Common.{◌≡◌, ℕ, ◌+◌, ◌<◌, ◌≤◌, List, [], ◌∷◌, ◌++◌, length, get_or, map, Some, refl, sym, ap, ◌∙◌, ⊎_elim, length-append, arith, Option, false, fold}
use Rattle.std.specs.Prelude.{◌≢◌, slice_get, slice_set}
use Rattle.std.specs.Option.{option_map_or}
use Rattle.std.proofs.lemmas.Bool.{cases_lt}
use Rattle.std.proofs.lemmas.List.{length-map, length-set, map-append, get_or-map, get_or_default}
use Rattle.std.proofs.lemmas.List.Sums.{fold-append}
use Rattle.std.proofs.lemmas.Option.{same_Some, slice_get_within, slice_get_read}
use Rattle.std.proofs.Math.Seq.{map-set_same}
use Rattle.atomic_table.specs.Seated.{TableId}
use Rattle.sq_shared.specs.declared.view.View.{View}
use Rattle.sq_shared.specs.View.{fresh, took}
use Rattle.sq_shared.specs.Seat.{SeatValue}
use Rattle.sq_shared.specs.Seats.{AreSeatsOf}
use Rattle.sq_node_model.proofs.Members.{set_stood, set_kept, set_new, slice_get-front, slice_get-pushed}
use Rattle.sq_node_model.proofs.Lists.{stands_at}
use Rattle.sq_node.specs.FabricValue.{AreFirst}
use Rattle.sq_node.specs.NodeState.{views_of}
use Rattle.sq_gather.specs.Trees.{AreJoined, view_with}

abbrev with_seat : SeatValue → SeatValue → SeatValue
with_seat seat other = record { tree = seat.tree; view = took seat.view other.view }

-- of an owner's seats, those that aren't left were joined
pub record Joins (trees : List TableId) (old others seats left : List SeatValue) : Type 0 where
  pub of : AreSeatsOf trees seats
  pub first : AreFirst seats
  pub count : length seats ≡ length old
  pub front : (k : ℕ) (seat : SeatValue) → slice_get left k ≡ Some seat → slice_get others k ≡ Some seat
  pub before : (k : ℕ) (seat : SeatValue) → k < length left → slice_get old k ≡ Some seat → slice_get seats k ≡ Some seat
  pub after : (k : ℕ) (seat other : SeatValue) → length left ≤ k → slice_get old k ≡ Some seat → slice_get others k ≡ Some other → slice_get seats k ≡ Some (with_seat seat other)

abbrev tree_of : SeatValue → TableId
tree_of seat = seat.tree

-- one more seat is joined: the last one that is left
module _ (trees : List TableId) (old others seats left rest : List SeatValue) (so_far : Joins trees old others seats left) (at : ℕ) (tree : TableId) (seat other after : SeatValue)
    (taken : left ≡ rest ++ other ∷ []) (place : at ≡ length rest) (others_of : AreSeatsOf trees others) (tree_is : tree ≡ get_or trees at tree) (read : seat ≡ get_or seats at seat) (same : after.tree ≡ tree)
    (joins : after.view ≡ took seat.view other.view) where
  was_left : slice_get left at ≡ Some other
  was_left = ap (slice_get left) place ∙ ap (λ (seats : List SeatValue). slice_get seats (length rest)) taken ∙ slice_get-pushed rest other

  within : at < length trees
  within = let lt = slice_get_within others at other (so_far.front at other was_left) in omega (arith, length-map others tree_of, ap length others_of)

  inside : at < length seats
  inside = let lt = within in omega (arith, length-map seats tree_of, ap length so_far.of)

  stands : slice_get seats at ≡ Some seat
  stands = slice_get_read seats (length seats) at seat refl inside read

  seat_tree : seat.tree ≡ tree
  seat_tree = ap tree_of read ∙ sym (get_or-map tree_of seats at seat seat.tree inside) ∙ ap (λ (ts : List TableId). get_or ts at seat.tree) so_far.of ∙ get_or_default trees at seat.tree tree within ∙ sym tree_is

  longer : length left ≡ length rest + 1
  longer = ap length taken ∙ length-append rest (other ∷ [])

  joined_of : AreSeatsOf trees (slice_set seats at after)
  joined_of = map-set_same tree_of seats at after seat (same ∙ sym seat_tree ∙ ap tree_of read) ∙ so_far.of

  joined_first : AreFirst (slice_set seats at after)
  joined_first seg one there =
      ⊎_elim
      (λ (here : (seg ≡ at) × (after ≡ one)). ap (λ (s : SeatValue). s.view.first) (sym here.1) ∙ ap (λ (v : View). v.first) joins ∙ so_far.first at seat stands)
      (λ (apart : (seg ≢ at) × (slice_get seats seg ≡ Some one)). so_far.first seg one apart.1)
      (set_stood seats at seg after one there)

  after_is : after ≡ with_seat seat other
  after_is = λ k. record { tree = (same ∙ sym seat_tree) k; view = joins k }

  pub joins_more : Joins trees old others (slice_set seats at after) rest
  joins_more = record {
    of = joined_of;
    first = joined_first;
    count = length-set seats at after ∙ so_far.count;
    front = λ k one there. so_far.front k one (ap (λ (seats : List SeatValue). slice_get seats k) taken ∙ slice_get-front rest (other ∷ []) k one there);
    before = λ k one lt there. set_kept seats at k after one (so_far.before k one (omega (arith, longer)) there) (λ same. absurd (omega arith));
    after = λ k one another past there taken_there.
        ⊎_elim
        (λ (here : k < length left).
        let same_place : k ≡ at = omega (arith, longer) in
        let is : seat ≡ one = same_Some seat one (sym stands ∙ ap (slice_get seats) (sym same_place) ∙ so_far.before k one here there) in
        let other_is : other ≡ another = same_Some other another (sym (so_far.front at other was_left) ∙ ap (slice_get others) (sym same_place) ∙ taken_there) in
        ap (slice_get (slice_set seats at after)) same_place ∙ set_new seats at after seat stands ∙ (λ k. Some ((after_is ∙ (λ j. with_seat (is j) (other_is j))) k)))
        (λ (later : length left ≤ k). set_kept seats at k after (with_seat one another) (so_far.after k one another later there taken_there) (λ same. absurd (omega (arith, longer))))
        (cases_lt k (length left));
  }

abbrev with_view : SeatValue → View → SeatValue
with_view seat view = record { tree = seat.tree; view = took seat.view view }

-- all seats of an owner are joined
pub all_joined : (trees : List TableId) (old others seats left : List SeatValue) → AreSeatsOf trees old → AreSeatsOf trees others → Joins trees old others seats left → length left ≡ 0 → AreJoined old (others ∷ []) seats
all_joined trees old others seats left of same joins none =
    record {
      count = joins.count;
      each = λ seg seat there.
          let lt = slice_get_within old seg seat there in
          let found : (other : SeatValue) × (slice_get others seg ≡ Some other) = stands_at others seg (omega (arith, length-map old tree_of, length-map others tree_of, ap length of, ap length same)) in
          joins.after seg seat found.0 (omega arith) there found.1
          ∙ ap (λ (other : Option SeatValue). Some (with_view seat (option_map_or (λ (s : SeatValue). s.view) other (fresh false false)))) (sym found.1);
    }

pub joined_more : (old mid new : List SeatValue) (owners : List (List SeatValue)) (seats : List SeatValue) → AreJoined old owners mid → AreJoined mid (seats ∷ []) new → AreJoined old (owners ++ seats ∷ []) new
joined_more old mid new owners seats before more =
    record {
      count = more.count ∙ before.count;
      each = λ seg seat there.
          let f : List SeatValue → View = λ seats. views_of seats seg in
          let views : view_with seat.view (owners ++ seats ∷ []) seg ≡ took (view_with seat.view owners seg) (f seats)
          = ap (fold took seat.view) (map-append f owners (seats ∷ [])) ∙ fold-append took seat.view (map f owners) (f seats ∷ []) in
          more.each seg (record { tree = seat.tree; view = view_with seat.view owners seg }) (before.each seg seat there) ∙ (λ k. Some (record { tree = seat.tree; view = sym views k }));
    }
