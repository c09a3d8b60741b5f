-- What the steps of a world rely on.
use Rattle.std.specs.Prelude.{◌≡◌, ℕ, false, ◌<◌, ◌≤◌, length, Some, slice_get, IsTrue}
use Rattle.sq_schema.specs.TxnValue.{TxnValue}
use Rattle.sq_moves.specs.declared.opening.TheConstants.{MAX_CAPACITY}
use Rattle.sq_moves.specs.declared.segment.TheConstants.{SEGMENT_LIMIT}
use Rattle.sq_moves.specs.declared.recon.Range.{Range}
use Rattle.sq_store.specs.ChunkValue.{ChunkValue}
use Rattle.sq_exec.specs.CoreValue.{inbox_at}
use Rattle.sq_exec.specs.Location.{is_coming_here, route}
use Rattle.sq_exec.specs.Moving.{can_load}
use Rattle.sq_transition.specs.WorldValue.{WorldValue, QueueValue, core_at, range_of}
use Rattle.sq_transition.specs.Leading.{parts_of, moved_by}

-- a partition knows its number, the plan and what moves; and a transaction that waits there runs
-- there once its rows have come
pub record IsSoundCore (w : WorldValue) (part : ℕ) : Type 0 where
  pub number : (core_at w part).part ≡ part
  pub plan : (core_at w part).plan ≡ w.old
  pub recon : (core_at w part).recon ≡ w.recon
  pub runs : (place : ℕ) (txn : TxnValue) → slice_get (core_at w part).waiting place ≡ Some txn
      → is_coming_here (core_at w part) txn.root ≡ false → route (core_at w part) txn.root ≡ part

-- a queue goes from one partition to another, and a chunk that was popped off it can be loaded
pub record IsSoundLink (w : WorldValue) (queue : QueueValue) : Type 0 where
  pub source : queue.src < w.old.parts
  pub destination : queue.dst < w.old.parts
  pub loads : (chunk : ChunkValue) → inbox_at (core_at w queue.dst) queue.src ≡ Some chunk
      → IsTrue (can_load (core_at w queue.dst) queue.src chunk)

-- there is a partition, and there aren't too many segments; the leader leads the partitions of the
-- plan and moves what moves; the lists have their lengths; each segment goes from one partition to
-- another; and each partition and each link is sound
pub record IsSound (w : WorldValue) : Type 0 where
  pub some_part : 1 ≤ w.old.parts
  pub few_segments : length w.recon.segments ≤ SEGMENT_LIMIT
  pub leader : parts_of w.leader ≡ w.old.parts
  pub moves : moved_by w.leader ≡ w.recon
  pub cores : length w.cores ≡ w.old.parts
  pub trees : length w.trees ≡ length w.recon.segments
  pub capacity : w.config.capacity ≤ MAX_CAPACITY
  pub ends : (seg : ℕ) (range : Range) → range_of w seg ≡ Some range → (range.src < w.old.parts) × (range.dst < w.old.parts)
  pub parts : (part : ℕ) → part < w.old.parts → IsSoundCore w part
  pub links : (i : ℕ) (queue : QueueValue) → slice_get w.queues i ≡ Some queue → IsSoundLink w queue
