-- The invariant of the link to a partition from another: of the chunks that were received, and of
-- those that were loaded.
use Rattle.std.specs.Prelude.{◌≡◌, ℕ, ◌≤◌, true, List, ◌++◌, Option, Contains, option_to_list}
use Rattle.sq_moves.specs.Node.{is_node}
use Rattle.sq_store.specs.declared.chunk.Note.{Note}
use Rattle.sq_store.specs.ChunkValue.{ChunkValue, are_within}
use Rattle.sq_moves.specs.OpeningValue.{OpeningValue}
use Rattle.sq_model.specs.Place.{extent_of}
use Rattle.sq_node_model.specs.Stages.{is_on_link_in}

-- the note is about keys of a node of a segment that goes from the one partition to the other in
-- this stage
pub record HasArrived (o : OpeningValue) (i src dst : ℕ) (note : Note) : Type 0 where
  pub node : is_node note.node ≡ true
  pub segment : is_on_link_in o i src dst note.seg ≡ true
  pub from : (extent_of o note.seg note.node).lo ≤ note.lo
  pub upto : note.hi ≤ (extent_of o note.seg note.node).hi

-- the chunks received are those loaded, followed by the one in the inbox; and those loaded belong
-- here, with families whose root keys rise
pub record InHolds (o : OpeningValue) (i part src : ℕ) (received loaded : List ChunkValue) (inbox : Option ChunkValue) : Type 0 where
  pub order : received ≡ loaded ++ option_to_list inbox
  pub arrived : (chunk : ChunkValue) → Contains loaded chunk → HasArrived o i src part chunk.note
  pub rising : (chunk : ChunkValue) → Contains loaded chunk → are_within chunk.note.lo chunk.note.hi chunk.families ≡ true
