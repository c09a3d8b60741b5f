-- Where the gathered families are, and where they should be.
use Rattle.std.specs.Prelude.{◌≡◌, ℕ, ◌-◌, List, [], length, take, slice_get, slice_index_or, Option, Some, option_and_then}
use Rattle.std.specs.List.{flat_map}
use Rattle.std.specs.FinMap.{get}
use Rattle.sq_schema.specs.Family.{FamilyValue}
use Rattle.sq_moves.specs.declared.status.Status.{Status}
use Rattle.sq_moves.specs.Tree.{status_at, IsGrown}
use Rattle.sq_store.specs.StoreValue.{family_in}
use Rattle.sq_store.specs.declared.chunk.Note.{Note}
use Rattle.sq_store.specs.ChunkValue.{ChunkValue}
use Rattle.sq_moves.specs.OpeningValue.{OpeningValue}
use Rattle.sq_model.specs.Place.{Place, At, Under_way, place_from}
use Rattle.sq_model.specs.Staged.{owner_in}
use Rattle.sq_node_model.specs.declared.spot.Spot.{Spot}
use Rattle.sq_node_model.specs.declared.spot.Spot.TheVariants.{Store, Chunk}
use Rattle.sq_node_model.specs.Gathered.{GatheredLink, GatheredValue}

-- how many chunks of the link were loaded, and their notes, the oldest first
abbrev pub loaded_count : GatheredLink → ℕ
loaded_count link = length link.notes - length link.under_way

abbrev pub loads_of : GatheredLink → List Note
loads_of link = take (loaded_count link) link.notes

-- the notes of all chunks that were cut, and of those that were loaded
abbrev pub cut_notes : GatheredValue → List Note
cut_notes g = flat_map (λ link. link.notes) g.links

abbrev pub loaded_notes : GatheredValue → List Note
loaded_notes g = flat_map loads_of g.links

-- where these notes place a root key
abbrev pub gathered_place : OpeningValue → GatheredValue → ℕ → Place
gathered_place o g root = place_from (owner_in o g.stage root) (cut_notes g) (loaded_notes g) root

-- the status of a node of a segment's tree
abbrev pub gathered_status : GatheredValue → ℕ → ℕ → Status
gathered_status g seg n = status_at (slice_index_or g.statuses seg []) n

-- the statuses of each segment are those of a tree that grew from a free one
abbrev pub AllGrown : List (List Status) → Type 0
AllGrown statuses = (seg : ℕ) → IsGrown (status_at (slice_index_or statuses seg []))

-- the chunk at a place of the link at a place
abbrev pub chunk_in : GatheredValue → ℕ → ℕ → Option ChunkValue
chunk_in g link chunk = option_and_then (λ at. slice_get at.under_way chunk) (slice_get g.links link)

-- the family of a root key at a spot
abbrev pub family_at_spot : GatheredValue → Spot → ℕ → Option FamilyValue
family_at_spot g (Store part) root = option_and_then (λ store. get store root) (slice_get g.stores part)
family_at_spot g (Chunk link chunk) root = option_and_then (λ found. family_in found.families root) (chunk_in g link chunk)

-- the root key has this family at the spot
abbrev pub StandsAt : GatheredValue → Spot → ℕ → FamilyValue → Type 0
StandsAt g spot root family = family_at_spot g spot root ≡ Some family

-- the spot is at the place: the store of the partition, or the chunk with the note
abbrev pub IsSpotOf : GatheredValue → Spot → Place → Type 0
IsSpotOf g (Store part) place = place ≡ At part
IsSpotOf g (Chunk link chunk) place = (found : ChunkValue) × (chunk_in g link chunk ≡ Some found) × (place ≡ Under_way found.note)
