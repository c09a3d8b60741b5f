-- Looks at tree nodes, and the completion of nodes after looks.
use Rattle.std.specs.Prelude.{◌≡◌, ◌⊎◌, ℕ, false, List, ◌++◌, length, remove, slice_get, Some, Contains}
use Rattle.sq_moves.specs.declared.status.Status.{Status}
use Rattle.sq_moves.specs.declared.status.Status.TheVariants.{Complete}
use Rattle.sq_moves.specs.Status.{is_partial}
use Rattle.sq_shared.specs.declared.view.View.{View}
use Rattle.sq_shared.specs.Plays.{Won}
use Rattle.sq_shared.specs.Seat.{SeatValue}
use Rattle.sq_shared.specs.Seats.{StepsAt}
use Rattle.sq_node.specs.Settled.{IsSettled}

-- a seat looked at nodes, and did nothing else
pub record OnlyLooked (v w : View) : Type 0 where
  pub looks : List (ℕ × Status)
  pub after : w ≡ record v { looked = looks ++ v.looked }

-- the seats looked at nodes, and did nothing else
pub record SeatsLooked (old new : List SeatValue) : Type 0 where
  pub count : length new ≡ length old
  pub each : (seg : ℕ) (before after : SeatValue) → slice_get old seg ≡ Some before → slice_get new seg ≡ Some after
      → (after.tree ≡ before.tree) × OnlyLooked before.view after.view

-- since it had the view `v`, the seat found the node with a status that isn't partial
pub record FoundElse (v w : View) (n : ℕ) : Type 0 where
  pub looks : List (ℕ × Status)
  pub since : w.looked ≡ looks ++ v.looked
  pub status : Status
  pub found : Contains looks (n, status)
  pub else : is_partial status ≡ false

-- the seat of a segment has nothing to complete at a node
pub record HasNoneToComplete (old new : List SeatValue) (seg n : ℕ) : Type 0 where
  pub before : SeatValue
  pub after : SeatValue
  pub there : slice_get old seg ≡ Some before
  pub then : slice_get new seg ≡ Some after
  pub why : IsSettled after.view n ⊎ FoundElse before.view after.view n

-- a seat looked at a node, and then completed it
abbrev pub LooksAndCompletes : View → ℕ → View → Type 0
LooksAndCompletes v n w = (pull : ℕ) × (between : View) × OnlyLooked v between × Won between n (Complete pull) w

-- a seat only looked, and has nothing to complete at a node
abbrev pub LooksOnly : View → ℕ → View → Type 0
LooksOnly v n w = OnlyLooked v w × (IsSettled w n ⊎ FoundElse v w n)

-- one of the nodes, in segment `seg`, was completed after looks, and is removed from the list
pub record CompletesOne (old : List SeatValue) (nodes : List (ℕ × ℕ)) (seg : ℕ) (new : List SeatValue)
    (left : List (ℕ × ℕ)) : Type 0 where
  pub place : ℕ
  pub node : ℕ
  pub there : slice_get nodes place ≡ Some (seg, node)
  pub between : List SeatValue
  pub looked : SeatsLooked old between
  pub completed : StepsAt seg (λ v w. LooksAndCompletes v node w) between new
  pub rest : left ≡ remove nodes place

-- no node was to be completed
pub record CompletesNone (old : List SeatValue) (nodes : List (ℕ × ℕ)) (new : List SeatValue) (left : List (ℕ × ℕ)) : Type 0 where
  pub looked : SeatsLooked old new
  pub none : (place seg n : ℕ) → slice_get nodes place ≡ Some (seg, n) → HasNoneToComplete old new seg n
  pub rest : left ≡ nodes
