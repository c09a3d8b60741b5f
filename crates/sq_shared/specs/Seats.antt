-- The seats of an owner, one for each segment, and how a step changes them.
use Rattle.std.specs.Prelude.{◌≡◌, ℕ, ◌⊎◌, List, [], map, slice_get, slice_set, Some, Option}
use Rattle.atomic_table.specs.Seated.{TableId}
use Rattle.sq_moves.specs.declared.tree_fault.SplitFault.{SplitFault}
use Rattle.sq_moves.specs.declared.status.Status.TheVariants.{Split}
use Rattle.sq_shared.specs.Calls.{WonLive, SplitRefused}
use Rattle.sq_shared.specs.declared.view.View.{View}
use Rattle.sq_shared.specs.declared.tree.walks.LeafClaim.{LeafClaim}
use Rattle.sq_shared.specs.Seat.{SeatValue, IsSameSeat}
use Rattle.sq_shared.specs.Walks.{WalkedLeaf, Searched, ClaimedOnly, claims_of_walk, claims_of_search}

-- each seat belongs to the tree of its segment
abbrev pub AreSeatsOf : List TableId → List SeatValue → Type 0
AreSeatsOf trees seats = map (λ (seat : SeatValue). seat.tree) seats ≡ trees

-- the seat of segment `seg` performed these steps, and no other seat did anything
pub record StepsAt (seg : ℕ) (steps : View → View → Type 0) (old new : List SeatValue) : Type 0 where
  pub before : SeatValue
  pub after : SeatValue
  pub there : slice_get old seg ≡ Some before
  pub others : new ≡ slice_set old seg after
  pub same : IsSameSeat before after
  pub told : steps before.view after.view

-- a claim of a leaf for a pull
pub record ClaimsLeaf (leaf pull : ℕ) (claim : LeafClaim) (v w : View) : Type 0 where
  pub walk : WalkedLeaf leaf pull v w claim
  pub claims : ClaimedOnly v (claims_of_walk pull claim) w

-- a claim of any node for a pull
pub record ClaimsAny (pull : ℕ) (found : Option ℕ) (v w : View) : Type 0 where
  pub search : Searched 1 pull v w found
  pub claims : ClaimedOnly v (claims_of_search pull found) w

-- a node was split, or it couldn't be; no node was claimed
pub record TriesSplit (n : ℕ) (v w : View) : Type 0 where
  pub split : WonLive v n Split w ⊎ ((fault : SplitFault) × SplitRefused n v w fault)
  pub claims : ClaimedOnly v [] w

-- what each seat began and completed
abbrev pub begun_by : List SeatValue → List (List (ℕ × ℕ))
begun_by seats = map (λ (seat : SeatValue). seat.view.begun) seats

abbrev pub completed_by : List SeatValue → List (List (ℕ × ℕ))
completed_by seats = map (λ (seat : SeatValue). seat.view.completed) seats

-- no seat began or completed a node
pub record OnlyClaimed (old new : List SeatValue) : Type 0 where
  pub begun : begun_by new ≡ begun_by old
  pub completed : completed_by new ≡ completed_by old
