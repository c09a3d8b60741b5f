-- The invariant of the runs of keys that a partition loaded.
use Rattle.std.specs.Prelude.{◌≡◌, ℕ, true, List}
use Rattle.sq_store.specs.ChunkValue.{ChunkValue, covers}
use Rattle.sq_exec.specs.declared.run.Run.{Run}
use Rattle.sq_exec.specs.Runs.{is_loaded, is_whole}
use Rattle.sq_node_model.specs.Chunks.{HasLast}

-- a loaded chunk of the segment covers the root key
abbrev pub IsCoveredIn : (ChunkValue → Type 0) → ℕ → ℕ → Type 0
IsCoveredIn loaded seg root = (chunk : ChunkValue) × loaded chunk × (chunk.note.seg ≡ seg) × (covers chunk.note root ≡ true)

-- the keys in the runs of a segment are exactly those that its loaded chunks cover, and the nodes
-- that are whole in them exactly those whose last chunk was loaded
pub record LoadedHolds (runs : ℕ → List Run) (loaded : ChunkValue → Type 0) : Type 0 where
  pub keys : (seg root : ℕ) → is_loaded (runs seg) root ≡ true → IsCoveredIn loaded seg root
  pub all_keys : (seg root : ℕ) → IsCoveredIn loaded seg root → is_loaded (runs seg) root ≡ true
  pub whole : (seg n : ℕ) → is_whole (runs seg) n ≡ true → HasLast loaded seg n
  pub all_whole : (seg n : ℕ) → HasLast loaded seg n → is_whole (runs seg) n ≡ true
