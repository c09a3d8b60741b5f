-- Links and their passes, apart from where they are in memory.
use Rattle.std.specs.Prelude.{ℕ, List}
use Rattle.atomic_table.specs.Seated.{TableId}
use Rattle.sq_store.specs.ChunkValue.{ChunkValue}

-- a link: its queue, its source and destination, and how many chunks it holds at most
pub record LinkValue : Type 0 where
  pub queue : TableId
  pub src : ℕ
  pub dst : ℕ
  pub capacity : ℕ

-- an end of a queue, with the chunks that went by it, in order: those that were sent, or those that
-- were received
pub record PassValue : Type 0 where
  pub queue : TableId
  pub chunks : List ChunkValue
