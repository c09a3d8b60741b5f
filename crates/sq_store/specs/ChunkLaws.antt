-- What laws say of the families that a chunk takes.
use Rattle.std.specs.Prelude.{◌≡◌, ℕ, if◌then◌else◌, None}
use Rattle.std.specs.FinMap.{get}
use Rattle.sq_store.specs.Prelude.{StoreValue, family_in, without_between}
use Rattle.sq_store.specs.ChunkValue.{ChunkValue, covers}

-- the chunk has the store's family at this root key if its note covers the key, and none there if
-- not
abbrev pub HasCovered : StoreValue → ChunkValue → ℕ → Type 0
HasCovered store chunk root = family_in chunk.families root ≡ (if covers chunk.note root then get store root else None)

-- without its families from lo up to the chunk's end, the store has its family at this root key
-- unless the note covers it
abbrev pub LeavesOthers : StoreValue → ℕ → ChunkValue → ℕ → Type 0
LeavesOthers store lo chunk root =
    get (without_between store lo chunk.note.hi) root ≡ (if covers chunk.note root then None else get store root)
