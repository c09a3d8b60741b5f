-- Seats that are shared out, one of each tree.
use Rattle.std.proofs.Common.{◌≡◌, ℕ, ◌+◌, ◌<◌, ◌≤◌, false, List, [], ◌∷◌, ◌++◌, length, get_or, map, take, Some, refl, sym, ap, ◌∙◌, ⊎_elim, arith}
use Rattle.std.specs.Prelude.{◌≢◌, slice_get, slice_set}
use Rattle.std.proofs.lemmas.Bool.{cases_lt}
use Rattle.std.proofs.lemmas.List.{length-map, length-set, map-append, take_more, get_or-map, get_or_default}
use Rattle.std.proofs.lemmas.Option.{same_Some, slice_get_within, slice_get_read}
use Rattle.std.proofs.Math.Seq.{map-set_same}
use Rattle.atomic_table.specs.Seated.{TableId}
use Rattle.sq_shared.specs.declared.view.View.{View}
use Rattle.sq_shared.specs.View.{fresh, gave}
use Rattle.sq_shared.specs.Seat.{SeatValue}
use Rattle.sq_shared.specs.Seats.{AreSeatsOf}
use Rattle.sq_node_model.proofs.Members.{set_stood, set_kept, set_new, push_stood}
use Rattle.sq_node.specs.FabricValue.{AreFirst}
use Rattle.sq_node.specs.Opened.{AreFirstSeats, GaveEach, first_view}

abbrev gave_one : SeatValue → SeatValue
gave_one seat = record { tree = seat.tree; view = gave seat.view }

-- the first seats of the trees so far gave one each, and these are they
pub record Shares (trees : List TableId) (old seats own : List SeatValue) (at : ℕ) : Type 0 where
  pub of : AreSeatsOf trees seats
  pub first : AreFirst seats
  pub count : length seats ≡ length old
  pub before : (k : ℕ) (seat : SeatValue) → k < at → slice_get old k ≡ Some seat → slice_get seats k ≡ Some (gave_one seat)
  pub after : (k : ℕ) (seat : SeatValue) → at ≤ k → slice_get old k ≡ Some seat → slice_get seats k ≡ Some seat
  pub own_of : map (λ (seat : SeatValue). seat.tree) own ≡ take at trees
  pub new : (seg : ℕ) (seat : SeatValue) → slice_get own seg ≡ Some seat → seat.view ≡ fresh false false

abbrev tree_of : SeatValue → TableId
tree_of seat = seat.tree

-- one more tree with its first seat
pub first_push : (given : ℕ) (trees : List TableId) (seats : List SeatValue) (tree : TableId) (seat : SeatValue) → AreFirstSeats given trees seats → seat.tree ≡ tree → seat.view ≡ first_view given
    → AreFirstSeats given (trees ++ tree ∷ []) (seats ++ seat ∷ [])
first_push given trees seats tree seat are is view =
    record {
      of = map-append tree_of seats (seat ∷ []) ∙ (λ k. are.of k ++ is k ∷ []);
      each = λ seg one there. ⊎_elim (λ (before : slice_get seats seg ≡ Some one). are.each seg one before)
          (λ (last : (seg ≡ length seats) × (seat ≡ one)). ap (λ (s : SeatValue). s.view) (sym last.1) ∙ view) (push_stood seats seat seg one there);
    }

module _ (trees : List TableId) (old seats own : List SeatValue) (at : ℕ) (so_far : Shares trees old seats own at) (tree : TableId) (seat after made : SeatValue)
    (within : at < length trees) (tree_is : tree ≡ get_or trees at tree) (read : seat ≡ get_or seats at seat) (trees_are : (after.tree ≡ tree) × (made.tree ≡ tree)) (gives : after.view ≡ gave seat.view) where
  inside : at < length seats
  inside = omega (arith, length-map seats tree_of, ap length so_far.of)

  stands : slice_get seats at ≡ Some seat
  stands = slice_get_read seats (length seats) at seat refl inside read

  seat_tree : seat.tree ≡ tree
  seat_tree = ap tree_of read ∙ sym (get_or-map tree_of seats at seat seat.tree inside) ∙ ap (λ (ts : List TableId). get_or ts at seat.tree) so_far.of ∙ get_or_default trees at seat.tree tree within ∙ sym tree_is

  pub shared_of : AreSeatsOf trees (slice_set seats at after)
  shared_of = map-set_same tree_of seats at after seat (trees_are.0 ∙ sym seat_tree ∙ ap tree_of read) ∙ so_far.of

  pub shared_first : AreFirst (slice_set seats at after)
  shared_first seg one there =
      ⊎_elim
      (λ (here : (seg ≡ at) × (after ≡ one)). ap (λ (s : SeatValue). s.view.first) (sym here.1) ∙ ap (λ (v : View). v.first) gives ∙ so_far.first at seat stands)
      (λ (other : (seg ≢ at) × (slice_get seats seg ≡ Some one)). so_far.first seg one other.1)
      (set_stood seats at seg after one there)

  after_is : after ≡ gave_one seat
  after_is = λ k. record { tree = (trees_are.0 ∙ sym seat_tree) k; view = gives k }

  pub shares_more : made.view ≡ fresh false false → Shares trees old (slice_set seats at after) (own ++ made ∷ []) (at + 1)
  shares_more is_new =
      record {
        of = shared_of;
        first = shared_first;
        count = length-set seats at after ∙ so_far.count;
        before = λ k one lt there.
            ⊎_elim
            (λ (earlier : k < at). set_kept seats at k after (gave_one one) (so_far.before k one earlier there) (λ same. absurd (omega arith)))
            (λ (here : at ≤ k).
            let same : k ≡ at = omega arith in
            let is : seat ≡ one = same_Some seat one (sym stands ∙ ap (slice_get seats) (sym same) ∙ so_far.after k one here there) in
            ap (slice_get (slice_set seats at after)) same ∙ set_new seats at after seat stands ∙ (λ k. Some ((after_is ∙ ap gave_one is) k)))
            (cases_lt k at);
        after = λ k one past there. set_kept seats at k after one (so_far.after k one (omega arith) there) (λ same. absurd (omega arith));
        own_of = map-append tree_of own (made ∷ []) ∙ (λ k. so_far.own_of k ++ (trees_are.1 ∙ tree_is) k ∷ []) ∙ sym (take_more trees at tree within);
        new = λ seg one there. ⊎_elim (λ (before : slice_get own seg ≡ Some one). so_far.new seg one before)
            (λ (last : (seg ≡ length own) × (made ≡ one)). ap (λ (s : SeatValue). s.view) (sym last.1) ∙ is_new) (push_stood own made seg one there);
      }

pub all_shared : (trees : List TableId) (old seats own : List SeatValue) (at : ℕ) → Shares trees old seats own at → length trees ≤ at → AreSeatsOf trees old → GaveEach old seats
all_shared trees old seats own at shares past of =
    record {
      count = shares.count;
      each = λ seg one there. shares.before seg one (let lt = slice_get_within old seg one there in omega (arith, length-map old tree_of, ap length of)) there;
    }
