-- A partition, as the part of a node that performs the move of an opening.
use Rattle.std.specs.Prelude.{◌≡◌, ℕ, true, ◌==◌, if◌then◌else◌, List, [], length, Some, None}
use Rattle.std.specs.FinMap.{get}
use Rattle.sq_store.specs.StoreValue.{StoreValue}
use Rattle.sq_store.specs.ChunkValue.{ChunkValue, IsChunk, covers}
use Rattle.sq_moves.specs.OpeningValue.{OpeningValue}
use Rattle.sq_model.specs.Staged.{owner_in}
use Rattle.sq_exec.specs.CoreValue.{CoreValue, opened_core}
use Rattle.sq_exec.specs.Opened.{HasOwnedOf}
use Rattle.sq_exec.specs.Moving.{can_load}
use Rattle.sq_shared.specs.declared.view.View.{View}
use Rattle.sq_node_model.specs.NodeValue.{NodeValue}
use Rattle.sq_node_model.specs.Chunks.{HasLoaded, IsCovered}
use Rattle.sq_node_model.specs.InHolds.{HasArrived}
use Rattle.sq_node_model.specs.BeganWith.{BeganWith}

-- a partition with these families, as this stage of the move begins
abbrev pub staged_core : OpeningValue → ℕ → ℕ → StoreValue → CoreValue
staged_core o i part store = record (opened_core o part store) { stage = i }

-- the partition knows the plan and the moves of the opening and the running stage, and has a place
-- for each partition and for each segment
pub record IsCoreOf (o : OpeningValue) (i : ℕ) (core : CoreValue) : Type 0 where
  pub plan : core.plan ≡ o.old
  pub recon : core.recon ≡ o.recon
  pub stage : core.stage ≡ i
  pub outs : length core.outs ≡ o.old.parts
  pub given_up : length core.given_up ≡ length o.recon.segments
  pub loaded : length core.loaded ≡ length o.recon.segments

-- the store has the families that the root keys the partition owns began with, and no others
abbrev pub OpensWith : OpeningValue → BeganWith → ℕ → StoreValue → Type 0
OpensWith o began part store = HasOwnedOf (owner_in o began.stage) began.families part store

-- the chunk that came from a partition can be loaded
pub record IsLoadable (core : CoreValue) (src : ℕ) (chunk : ChunkValue) : Type 0 where
  pub can : can_load core src chunk ≡ true
  pub sound : IsChunk chunk

-- the chunk covers a root key that a loaded chunk covers
abbrev pub OverlapsLoaded : NodeValue → ChunkValue → Type 0
OverlapsLoaded node chunk = (root : ℕ) × (covers chunk.note root ≡ true) × IsCovered (HasLoaded node) root

-- a chunk that came from the partition and isn't loaded yet doesn't belong here in this stage, or
-- covers a root key that was loaded
abbrev pub HasNoneToLoad : OpeningValue → ℕ → NodeValue → ℕ → Type 0
HasNoneToLoad o i node src =
    (chunk : ChunkValue) → node.inboxes src ≡ Some chunk → HasArrived o i src node.part chunk.note → OverlapsLoaded node chunk

-- the seats, by segment, began and completed nothing, and nothing was sent and received
pub record IsUnused (views : ℕ → View) (sent received : ℕ → List ChunkValue) : Type 0 where
  pub begun : (seg : ℕ) → (views seg).begun ≡ []
  pub completed : (seg : ℕ) → (views seg).completed ≡ []
  pub none_sent : (dst : ℕ) → sent dst ≡ []
  pub none_received : (src : ℕ) → received src ≡ []
