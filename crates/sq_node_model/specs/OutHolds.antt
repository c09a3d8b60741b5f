-- The invariant of the link from a partition to another: of the chunks that were cut for it, their
-- notes, and the open work.
use Rattle.std.specs.Prelude.{◌≡◌, ℕ, Bool, true, false, ◌==◌, ◌&&◌, List, map, reverse, slice_get, Some, is_some, Contains}
use Rattle.sq_store.specs.declared.chunk.Note.{Note}
use Rattle.sq_store.specs.ChunkValue.{ChunkValue, covers, are_within}
use Rattle.sq_store.specs.StoreValue.{family_in}
use Rattle.sq_moves.specs.OpeningValue.{OpeningValue}
use Rattle.sq_exec.specs.Work.{WorkValue}
pub use Rattle.sq_exec.specs.Work.{is_work_on}
use Rattle.sq_model.specs.Place.{extent_of}
use Rattle.sq_model.specs.Links.{has_last, reached}
use Rattle.sq_model.specs.Orderly.{AreNumbered, Tiles}
use Rattle.sq_node_model.specs.Stages.{is_on_link_in}
use Rattle.sq_node_model.specs.BegunHolds.{IsNamed}
use Rattle.sq_node_model.specs.BeganWith.{BeganWith, is_given}

-- the note goes from the one partition to the other, and is about a begun node of a segment that
-- does so in this stage
pub record IsOwnNote (o : OpeningValue) (i part : ℕ) (begun : ℕ → List (ℕ × ℕ)) (dst : ℕ) (note : Note) : Type 0 where
  pub comes_from : note.src ≡ part
  pub goes_to : note.dst ≡ dst
  pub segment : is_on_link_in o i part dst note.seg ≡ true
  pub about : IsNamed (begun note.seg) note.node

-- the chunk has the families of its keys: their root keys rise, and each of its keys that began
-- with a family has one
pub record IsWholeChunk (began : BeganWith) (chunk : ChunkValue) : Type 0 where
  pub rising : are_within chunk.note.lo chunk.note.hi chunk.families ≡ true
  pub given : (root : ℕ) → covers chunk.note root ≡ true → is_given began root ≡ true
      → is_some (family_in chunk.families root) ≡ true

-- the work is what these notes, the oldest first, leave of a begun node of the link without a last
-- note
pub record IsOpenWork (o : OpeningValue) (i part : ℕ) (begun : ℕ → List (ℕ × ℕ)) (notes : List Note) (dst : ℕ)
    (work : WorkValue) : Type 0 where
  pub segment : is_on_link_in o i part dst work.seg ≡ true
  pub on : Contains (begun work.seg) (work.node, work.pull)
  pub open_yet : has_last work.seg work.node (reverse notes) ≡ false
  pub rest : work.rest ≡ reached o work.seg work.node (reverse notes)
  pub upto : work.hi ≡ (extent_of o work.seg work.node).hi

-- there is work on this node of a segment's tree
abbrev pub HasWorkOn : List WorkValue → ℕ → ℕ → Type 0
HasWorkOn works seg n = (work : WorkValue) × Contains works work × (is_work_on seg n work ≡ true)

-- no two pieces of work are on one node of a segment's tree
abbrev pub NoneTwice : List WorkValue → Type 0
NoneTwice works =
    (i j : ℕ) (one other : WorkValue) → slice_get works i ≡ Some one → slice_get works j ≡ Some other
    → one.seg ≡ other.seg → one.node ≡ other.node → i ≡ j

-- the notes, the oldest first, are those of the chunks; they are numbered from 0, are the
-- partition's own, and tile the begun nodes; the chunks are whole; and there is one piece of open
-- work for each begun node of the link without a last note, and no other
pub record OutHolds (o : OpeningValue) (began : BeganWith) (part : ℕ) (begun : ℕ → List (ℕ × ℕ)) (dst : ℕ)
    (notes : List Note) (works : List WorkValue) (cut : List ChunkValue) : Type 0 where
  pub noted : notes ≡ map (λ chunk. chunk.note) cut
  pub numbered : AreNumbered (reverse notes)
  pub own : (note : Note) → Contains notes note → IsOwnNote o began.stage part begun dst note
  pub tiles : Tiles o (reverse notes)
  pub chunks : (chunk : ChunkValue) → Contains cut chunk → IsWholeChunk began chunk
  pub work : (work : WorkValue) → Contains works work → IsOpenWork o began.stage part begun notes dst work
  pub each : (seg n pull : ℕ) → is_on_link_in o began.stage part dst seg ≡ true → Contains (begun seg) (n, pull)
      → has_last seg n (reverse notes) ≡ false → HasWorkOn works seg n
  pub once : NoneTwice works
