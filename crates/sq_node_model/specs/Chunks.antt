-- The chunks that a node cut, and those that it loaded.
use Rattle.std.specs.Prelude.{◌≡◌, ℕ, ◌-◌, true, List, ◌++◌, length, take, Contains, option_to_list}
use Rattle.sq_store.specs.ChunkValue.{ChunkValue, covers}
use Rattle.sq_model.specs.Links.{is_about}
use Rattle.sq_node_model.specs.NodeValue.{NodeValue}

-- the chunks that were cut for a destination, the oldest first: those that were sent, and the one
-- that isn't yet
abbrev pub cut_to : NodeValue → ℕ → List ChunkValue
cut_to node dst = node.sent dst ++ option_to_list (node.outs dst).outbox

-- the chunks from a source that were loaded, the oldest first: those that were received, except the
-- one in the inbox
abbrev pub loaded_from : NodeValue → ℕ → List ChunkValue
loaded_from node src =
    take (length (node.received src) - length (option_to_list (node.inboxes src))) (node.received src)

-- the chunk is in one of these lists
abbrev pub IsInOne : (ℕ → List ChunkValue) → ChunkValue → Type 0
IsInOne lists chunk = (key : ℕ) × Contains (lists key) chunk

-- the node cut the chunk
abbrev pub HasCut : NodeValue → ChunkValue → Type 0
HasCut node = IsInOne (cut_to node)

-- the node loaded the chunk
abbrev pub HasLoaded : NodeValue → ChunkValue → Type 0
HasLoaded node = IsInOne (loaded_from node)

-- one of these chunks covers the root key
abbrev pub IsCovered : (ChunkValue → Type 0) → ℕ → Type 0
IsCovered chunks root = (chunk : ChunkValue) × chunks chunk × (covers chunk.note root ≡ true)

-- one of these chunks is the last of the node of a segment's tree
abbrev pub HasLast : (ChunkValue → Type 0) → ℕ → ℕ → Type 0
HasLast chunks seg n = (chunk : ChunkValue) × chunks chunk × (is_about seg n chunk.note ≡ true) × (chunk.note.last ≡ true)
