-- A seat, as contracts see it.
use Rattle.std.specs.Prelude.{◌≡◌}
use Rattle.atomic_table.specs.Seated.{TableId}
use Rattle.sq_shared.specs.declared.view.View.{View}
use Rattle.sq_shared.specs.View.{SameRole}

-- the tree that a seat belongs to, and its view
pub record SeatValue : Type 0 where
  pub tree : TableId
  pub view : View

-- a seat before and after one of its own steps
pub record IsSameSeat (old new : SeatValue) : Type 0 where
  pub tree : new.tree ≡ old.tree
  pub role : SameRole old.view new.view
