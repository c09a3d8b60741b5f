-- Trees that are closed, one after the other.
use Rattle.std.proofs.Common.{◌≡◌, ℕ, ◌+◌, ◌<◌, ◌≤◌, List, [], ◌∷◌, ◌++◌, length, map, Some, sym, ap, ◌∙◌, subst, ⊎_elim, length-append, arith}
use Rattle.std.specs.Prelude.{slice_get, slice_set, slice_index_or}
use Rattle.std.proofs.lemmas.Bool.{cases_lt}
use Rattle.std.proofs.lemmas.List.{length-map, length-set, map-append, get_or-set_same, get_or-set_other}
use Rattle.std.proofs.lemmas.Option.{same_Some, slice_get_within}
use Rattle.atomic_table.specs.Seated.{TableId}
use Rattle.sq_moves.specs.declared.status.Status.{Status}
use Rattle.sq_shared.specs.Seat.{SeatValue}
use Rattle.sq_shared.specs.Rule.{IsTreeOf}
use Rattle.sq_shared.specs.Seats.{AreSeatsOf}
use Rattle.sq_gather.specs.Trees.{AreTreesOf}
use Rattle.sq_node_model.proofs.Members.{slice_get-front, slice_get-pushed}
use Rattle.sq_gather.proofs.Lists.{push_same}

-- of these seats, those that aren't left were closed with their trees
pub record Closes (all : List SeatValue) (trees : List TableId) (seats : List SeatValue) (statuses : List (List Status)) : Type 0 where
  pub of : AreSeatsOf trees seats
  pub count : length statuses ≡ length all
  pub front : (k : ℕ) (seat : SeatValue) → slice_get seats k ≡ Some seat → slice_get all k ≡ Some seat
  pub closed : (k : ℕ) (seat : SeatValue) → length seats ≤ k → slice_get all k ≡ Some seat → IsTreeOf (slice_index_or statuses k []) (seat.view ∷ [])

abbrev tree_of : SeatValue → TableId
tree_of seat = seat.tree

-- one more is closed: the last one that is left
module _ (all : List SeatValue) (trees : List TableId) (seats : List SeatValue) (statuses : List (List Status)) (so_far : Closes all trees seats statuses) (fewer : List TableId) (rest : List SeatValue) (tree : TableId) (seat : SeatValue)
    (tree_taken : trees ≡ fewer ++ tree ∷ []) (taken : seats ≡ rest ++ seat ∷ []) where
  same : (map tree_of rest ≡ fewer) × (seat.tree ≡ tree)
  same = push_same (map tree_of rest) fewer seat.tree tree (sym (map-append tree_of rest (seat ∷ [])) ∙ ap (map tree_of) (sym taken) ∙ so_far.of ∙ tree_taken)

  pub last_stands : slice_get all (length fewer) ≡ Some seat
  last_stands =
      so_far.front (length fewer) seat
      (ap (slice_get seats) (sym (ap length same.0) ∙ length-map rest tree_of) ∙ ap (λ (all : List SeatValue). slice_get all (length rest)) taken ∙ slice_get-pushed rest seat)

  pub closes_more : (at : ℕ) (tree_statuses : List Status) → at ≡ length fewer → IsTreeOf tree_statuses (seat.view ∷ []) → Closes all fewer rest (slice_set statuses at tree_statuses)
  closes_more at tree_statuses place is =
      let count : length rest ≡ at = sym (length-map rest tree_of) ∙ ap length same.0 ∙ sym place in
      let longer : length seats ≡ length rest + 1 = ap length taken ∙ length-append rest (seat ∷ []) in
      let stands : slice_get all at ≡ Some seat = ap (slice_get all) place ∙ last_stands in
      record {
        of = same.0;
        count = length-set statuses at tree_statuses ∙ so_far.count;
        front = λ k one there. so_far.front k one (ap (λ (seats : List SeatValue). slice_get seats k) taken ∙ slice_get-front rest (seat ∷ []) k one there);
        closed = λ k one past there.
            ⊎_elim
            (λ (here : k < length seats).
            let same_place : k ≡ at = omega arith in
            let one_is : seat ≡ one = same_Some seat one (sym stands ∙ ap (slice_get all) (sym same_place) ∙ there) in
            let within : at < length statuses = let lt = slice_get_within all at seat stands in omega (arith, so_far.count) in
            let read : slice_index_or (slice_set statuses at tree_statuses) k [] ≡ tree_statuses = ap (λ (k : ℕ). slice_index_or (slice_set statuses at tree_statuses) k []) same_place ∙ get_or-set_same statuses at tree_statuses [] within in
            subst (λ (list : List Status). IsTreeOf list (one.view ∷ [])) (sym read) (subst (λ (s : SeatValue). IsTreeOf tree_statuses (s.view ∷ [])) one_is is))
            (λ (later : length seats ≤ k).
            subst (λ (list : List Status). IsTreeOf list (one.view ∷ [])) (sym (get_or-set_other statuses at k tree_statuses [] (λ same. absurd (omega arith)))) (so_far.closed k one later there))
            (cases_lt k (length seats));
      }

pub none_closed : (trees : List TableId) (seats : List SeatValue) (statuses : List (List Status)) → AreSeatsOf trees seats → length statuses ≡ length trees → Closes seats trees seats statuses
none_closed trees seats statuses of room =
    record {
      of = of;
      count = room ∙ sym (ap length of) ∙ length-map seats tree_of;
      front = λ k seat there. there;
      closed = λ k seat past there. absurd (let lt = slice_get_within seats k seat there in omega arith);
    }

pub all_closed : (all : List SeatValue) (trees : List TableId) (seats : List SeatValue) (statuses : List (List Status)) → Closes all trees seats statuses → length trees ≡ 0 → AreTreesOf all statuses
all_closed all trees seats statuses closes none =
    record {
      count = closes.count;
      each = λ k seat there. closes.closed k seat (omega (arith, length-map seats tree_of, ap length closes.of)) there;
    }
