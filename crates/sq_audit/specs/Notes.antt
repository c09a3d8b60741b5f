-- What holds of the notes of links, and when a note continues the newest one of its node.
use Rattle.std.specs.Prelude.{◌≡◌, ℕ, ◌≤◌, Bool, true, false, ◌==◌, ◌-◌, List, length, map, drop, slice_get, Option, Some, None, Contains}
use Rattle.sq_gather.specs.Prelude.{Note, ChunkValue, are_within, Extent, OpeningValue, end_of_note, GatheredLink, GatheredValue, IsLinkNote, IsLinkPlaced}

abbrev pub LinksPlaced : OpeningValue → GatheredValue → Type 0
LinksPlaced o g = (i : ℕ) (link : GatheredLink) → slice_get g.links i ≡ Some link → IsLinkPlaced o g link

-- the chunks are those of the last of `notes`
abbrev pub AreOfLast : List ChunkValue → List Note → Type 0
AreOfLast chunks notes = map (λ chunk. chunk.note) chunks ≡ drop (length notes - length chunks) notes

-- the families of each chunk have keys that its note covers
abbrev pub HoldTheirKeys : List ChunkValue → Type 0
HoldTheirKeys chunks = (chunk : ChunkValue) → Contains chunks chunk → are_within chunk.note.lo chunk.note.hi chunk.families ≡ true

-- each note belongs to the link
abbrev pub AreLinkNotes : OpeningValue → GatheredValue → GatheredLink → Type 0
AreLinkNotes o g link = (note : Note) → Contains link.notes note → IsLinkNote o g link note

-- there is a note, and it is the last one of its node
abbrev pub is_last_note : Option Note → Bool
is_last_note None = false
is_last_note (Some note) = note.last

-- the note begins at `from`, ends at most at the end of the extent, and is last exactly if it ends
-- there
pub record IsPart (extent : Extent) (from : ℕ) (note : Note) : Type 0 where
  pub begins : note.lo ≡ from
  pub rises : note.lo ≤ note.hi
  pub within : note.hi ≤ extent.hi
  pub last : note.last ≡ (note.hi == extent.hi)

-- the note begins where the newest one of its node ends, which wasn't the last, or if there is none
-- at the low end of the node's extent
pub record FollowsNewest (extent : Extent) (newest : Option Note) (note : Note) : Type 0 where
  pub part : IsPart extent (end_of_note extent.lo newest) note
  pub unfinished : is_last_note newest ≡ false
