-- A chunk, apart from where it is stored.
use Rattle.std.specs.Prelude.{◌≡◌, ℕ, Bool, true, ◌==◌, ◌&&◌, nat_lt, nat_le, List}
use Rattle.sq_schema.specs.Family.{FamilyValue}
use Rattle.sq_moves.specs.Node.{is_node}
use Rattle.sq_store.specs.declared.chunk.Note.{Note}
pub use Rattle.sq_store.specs.InOrder.{are_within, AreKeyed}

pub record ChunkValue : Type 0 where
  pub note : Note
  pub families : List FamilyValue

-- the invariant of every chunk: it is about a node of a tree, and has families of its keys by
-- rising root key, each with a log of its own root key
pub record IsChunk (chunk : ChunkValue) : Type 0 where
  pub node : is_node chunk.note.node ≡ true
  pub rising : are_within chunk.note.lo chunk.note.hi chunk.families ≡ true
  pub keyed : AreKeyed chunk.families

-- the note covers the key
abbrev pub covers : Note → ℕ → Bool
covers note key = nat_le note.lo key && nat_lt key note.hi

-- the note is about this node of this segment
abbrev pub is_about : ℕ → ℕ → Note → Bool
is_about seg node note = (note.seg == seg) && (note.node == node)
