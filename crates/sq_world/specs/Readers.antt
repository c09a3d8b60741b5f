-- What is read of a world, and what its history determines of it.
use Rattle.std.specs.Prelude.{◌≡◌, ℕ, ◌<◌, ◌≤◌, nat_lt, ◌&&◌, if◌then◌else◌, List, [], length, drop, reverse, slice_get, Option, Some, None}
use Rattle.std.specs.Option.{option_map}
use Rattle.std.specs.FinMap.{get}
use Rattle.sq_moves.specs.declared.status.Status.{Status}
use Rattle.sq_moves.specs.Node.{is_node}
use Rattle.sq_store.specs.declared.chunk.Note.{Note}
use Rattle.sq_store.specs.ChunkValue.{ChunkValue}
use Rattle.sq_store.specs.StoreValue.{StoreValue}
use Rattle.sq_moves.specs.OpeningValue.{OpeningValue}
use Rattle.sq_model.specs.Trace.{Trace, notes, link, load_count}
use Rattle.sq_model.specs.Nodes.{status_of}
use Rattle.sq_exec.specs.CoreValue.{CoreValue}
use Rattle.sq_transition.specs.WorldValue.{WorldValue, status_in, link_index, link_value, under_way}
use Rattle.sq_transition.specs.Holds.{share_at, ChunkHolds}

-- the store of a partition; none past the last
abbrev pub store_at : WorldValue → ℕ → Option StoreValue
store_at w part = option_map (λ (core : CoreValue). core.store) (slice_get w.cores part)

-- the chunks under way on the link at this place; none without a link
abbrev pub way_of : WorldValue → Option ℕ → List ChunkValue
way_of w None = []
way_of w (Some at) = under_way (link_value w at)

-- the chunk with this number, from 0, of those that were cut from one partition for another and
-- aren't loaded yet, the oldest first
abbrev pub chunk_at : WorldValue → ℕ → ℕ → ℕ → Option ChunkValue
chunk_at w src dst i = slice_get (way_of w (link_index w src dst)) i

-- the status of a node; none if there is no such segment or node
abbrev pub status_there : WorldValue → ℕ → ℕ → Option Status
status_there w seg node = if is_node node && nat_lt seg (length w.trees) then Some (status_in w seg node) else None

-- the store of each partition holds exactly the families that the history places there
abbrev pub IsStoreAfter : OpeningValue → Trace → ℕ → Option StoreValue → Type 0
IsStoreAfter o t part None = o.old.parts ≤ part
IsStoreAfter o t part (Some store) =
    (part < o.old.parts) × ((root : ℕ) → get store root ≡ share_at o t part root)

-- the notes of the chunks that were cut from one partition for another and aren't loaded yet, the
-- oldest first
abbrev pub way_notes : Trace → ℕ → ℕ → List Note
way_notes t src dst = drop (load_count t src dst) (reverse (link src dst (notes t)))

-- a chunk under way is the one with its number in the history, with exactly the families that its
-- note covers
abbrev pub IsChunkAfter : OpeningValue → Trace → ℕ → ℕ → ℕ → Option ChunkValue → Type 0
IsChunkAfter o t src dst i None = slice_get (way_notes t src dst) i ≡ None
IsChunkAfter o t src dst i (Some chunk) =
    (slice_get (way_notes t src dst) i ≡ Some chunk.note) × ChunkHolds o t chunk

-- the status of a node of a segment, as the history determines it
abbrev pub status_after : OpeningValue → Trace → ℕ → ℕ → Option Status
status_after o t seg node = if is_node node && nat_lt seg (length o.recon.segments) then Some (status_of t seg node) else None
