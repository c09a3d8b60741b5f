-- What the parts of a world open with.
use Rattle.std.specs.Prelude.{◌≡◌, ℕ, ◌<◌, List, [], length, map, slice_index_or}
use Rattle.sq_moves.specs.declared.status.Status.{Status}
use Rattle.sq_moves.specs.declared.status.Status.TheVariants.{Free}
use Rattle.sq_moves.specs.Tree.{status_at}
use Rattle.sq_moves.specs.declared.recon.Link.{Link}
use Rattle.sq_moves.specs.declared.recon.Range.{Range}
use Rattle.sq_moves.specs.ReconValue.{AreLinks}
use Rattle.sq_transition.specs.WorldValue.{QueueValue}
use Rattle.sq_world.specs.Queue.{opened_queue}

-- for each segment a tree, with all nodes free
pub record AreNewTrees (segments : List Range) (trees : List (List Status)) : Type 0 where
  pub count : length trees ≡ length segments
  pub each : (seg node : ℕ) → seg < length trees → status_at (slice_index_or trees seg []) node ≡ Free

-- the queues of the links of ranges, all empty
pub record AreNewQueues (ranges : List Range) (queues : List QueueValue) : Type 0 where
  pub links : List Link
  pub all : AreLinks ranges links
  pub same : queues ≡ map opened_queue links
