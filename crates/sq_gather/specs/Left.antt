-- The unanswered jobs, by partition.
use Rattle.std.specs.Prelude.{◌≡◌, ℕ, ◌+◌, ◌≤◌, List, [], length, slice_get, Some}
use Rattle.sq_moves.specs.declared.opening.TheConstants.{MAX_WAITING}
use Rattle.sq_schema.specs.TxnValue.{TxnValue}
use Rattle.sq_node.specs.declared.fabric.TheConstants.{JOB_PLACES}
use Rattle.sq_node_model.specs.BeganWith.{BeginsWith}

-- jobs, and the capacity of their list
abbrev pub Room : Type 0
Room = List TxnValue × ℕ

-- an empty list for each of `parts` partitions, with room for as many jobs as its queue holds and
-- as may wait there
pub record AreRooms (parts : ℕ) (rooms : List Room) : Type 0 where
  pub count : length rooms ≡ parts
  pub each : (part : ℕ) (room : Room) → slice_get rooms part ≡ Some room → (room.0 ≡ []) × (JOB_PLACES + MAX_WAITING ≤ room.1)

-- the jobs of each partition begin with those that waited there, if these are at most as many as
-- may wait
abbrev pub BeginWithWaiting : List (List TxnValue) → List (List TxnValue) → Type 0
BeginWithWaiting waiting left =
    (part : ℕ) (first jobs : List TxnValue) → slice_get waiting part ≡ Some first → slice_get left part ≡ Some jobs
    → length first ≤ MAX_WAITING → BeginsWith first jobs

-- each partition still has its earlier jobs first, and perhaps more after them
pub record OnlyGrow (old new : List (List TxnValue)) : Type 0 where
  pub count : length new ≡ length old
  pub each : (part : ℕ) (was now : List TxnValue) → slice_get old part ≡ Some was → slice_get new part ≡ Some now
      → BeginsWith was now
