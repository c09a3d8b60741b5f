-- What the nodes at the two ends of a link left of it.
use Rattle.std.specs.Prelude.{ℕ, List, Option}
use Rattle.sq_store.specs.declared.chunk.Note.{Note}
use Rattle.sq_store.specs.ChunkValue.{ChunkValue}
use Rattle.sq_shared.specs.Values.{PassValue}

-- of the source: the sending end, the notes of all chunks that were cut and the chunk that isn't
-- sent; of the destination: the receiving end and the chunk that isn't loaded; and the room for
-- chunks
pub record LinkEndsValue : Type 0 where
  pub sender : Option PassValue
  pub notes : List Note
  pub outbox : Option ChunkValue
  pub receiver : Option PassValue
  pub inbox : Option ChunkValue
  pub room : ℕ
