-- The properties of what was gathered, whatever the threads did: each family is in one place, where
-- the notes place it, and is the replay of its log, which the receipts name.
use Rattle.std.specs.Prelude.{◌≡◌, ◌⊎◌, ℕ, true, false, nat_lt, length, map, drop, reverse, slice_get, Some, Contains}
use Rattle.sq_schema.specs.Family.{FamilyValue}
use Rattle.sq_store.specs.StoreValue.{absent}
use Rattle.sq_moves.specs.Node.{is_node}
use Rattle.sq_moves.specs.Status.{is_begun, is_complete}
use Rattle.sq_store.specs.declared.chunk.Note.{Note}
use Rattle.sq_store.specs.ChunkValue.{ChunkValue, are_within}
use Rattle.sq_moves.specs.OpeningValue.{OpeningValue}
use Rattle.sq_model.specs.Tables.{opening_rows}
use Rattle.sq_model.specs.Links.{has_last}
use Rattle.sq_model.specs.Orderly.{AreNumbered, Tiles, AreDisjoint}
use Rattle.sq_node_model.specs.Stages.{is_on_link_in}
use Rattle.sq_shared.specs.View.{one_if}
use Rattle.sq_node_model.specs.NodeValue.{ReceiptValue}
use Rattle.sq_node_model.specs.BeganWith.{BeganWith, is_opened}
use Rattle.sq_node_model.specs.Receipts.{is_commit, times_named, IsToldBy, IsReplyIn}
use Rattle.sq_node_model.specs.FamiliesHold.{IsOf, GrowsFrom}
use Rattle.sq_node_model.specs.declared.spot.Spot.{Spot}
use Rattle.sq_node_model.specs.Gathered.{GatheredLink, GatheredValue, HasEachLink}
use Rattle.sq_node_model.specs.Spots.{AllGrown, loaded_count, cut_notes, loaded_notes, gathered_place, gathered_status, StandsAt, IsSpotOf}

-- there is a store for each partition, a link for each pair of partitions between which a range
-- moves in the stage, and a tree for each segment
pub record HasEachPart (o : OpeningValue) (g : GatheredValue) : Type 0 where
  pub all_stores : length g.stores ≡ o.old.parts
  pub each_link : HasEachLink o g.stage g.links
  pub all_statuses : length g.statuses ≡ length o.recon.segments

-- the note goes along the link, and is about a node of the tree of one of its segments of the
-- stage, which was begun
pub record IsLinkNote (o : OpeningValue) (g : GatheredValue) (link : GatheredLink) (note : Note) : Type 0 where
  pub comes_from : note.src ≡ link.src
  pub goes_to : note.dst ≡ link.dst
  pub segment : is_on_link_in o g.stage link.src link.dst note.seg ≡ true
  pub node : is_node note.node ≡ true
  pub begun : is_begun (gathered_status g note.seg note.node) ≡ true

-- the chunks under way are those of the last notes; the notes are numbered from 0, are the link's,
-- and tile their nodes; and each family of a chunk is of its note's keys
pub record IsLinkPlaced (o : OpeningValue) (g : GatheredValue) (link : GatheredLink) : Type 0 where
  pub way : map (λ chunk. chunk.note) link.under_way ≡ drop (loaded_count link) link.notes
  pub numbered : AreNumbered (reverse link.notes)
  pub about : (note : Note) → Contains link.notes note → IsLinkNote o g link note
  pub tiles : Tiles o (reverse link.notes)
  pub within : (chunk : ChunkValue) → Contains link.under_way chunk → are_within chunk.note.lo chunk.note.hi chunk.families ≡ true

-- all parts are there and fit together: notes of two nodes share no key, the trees grew from free
-- ones, a complete node has its last note loaded, and each family is where the notes place its root
-- key
pub record FitTogether (o : OpeningValue) (g : GatheredValue) : Type 0 where
  pub parts : HasEachPart o g
  pub links : (i : ℕ) (link : GatheredLink) → slice_get g.links i ≡ Some link → IsLinkPlaced o g link
  pub apart : AreDisjoint (cut_notes g)
  pub grown : AllGrown g.statuses
  pub complete : (seg n : ℕ) → is_complete (gathered_status g seg n) ≡ true → has_last seg n (loaded_notes g) ≡ true
  pub placed : (spot : Spot) (root : ℕ) (family : FamilyValue) → StandsAt g spot root family
      → IsSpotOf g spot (gathered_place o g root)
  pub keyed : (spot : Spot) (root : ℕ) (family : FamilyValue) → StandsAt g spot root family → IsOf root family

-- no root key has a family at two spots
abbrev pub StandOnce : GatheredValue → Type 0
StandOnce g =
    (one other : Spot) (root : ℕ) (family again : FamilyValue) → StandsAt g one root family → StandsAt g other root again
    → one ≡ other

-- each opening root key has a family
abbrev pub AllStand : OpeningValue → GatheredValue → Type 0
AllStand o g = (root : ℕ) → is_opened o root ≡ true → (spot : Spot) × (family : FamilyValue) × StandsAt g spot root family

-- each family starts from the opening rows of its root key
abbrev pub KeepBases : OpeningValue → GatheredValue → Type 0
KeepBases o g = (spot : Spot) (root : ℕ) (family : FamilyValue) → StandsAt g spot root family → family.base ≡ opening_rows o root

-- the committed receipts name each position of each family's log once, and no other position of it
abbrev pub NameEach : GatheredValue → Type 0
NameEach g =
    (spot : Spot) (root : ℕ) (family : FamilyValue) → StandsAt g spot root family → (position : ℕ)
    → times_named root position g.receipts ≡ one_if (nat_lt position (length family.log))

-- each committed receipt names the transaction at its position in a family's log, and the reply
-- that it must have had
abbrev pub AreTold : GatheredValue → Type 0
AreTold g =
    (receipt : ReceiptValue) → Contains g.receipts receipt → is_commit receipt.reply ≡ true
    → (spot : Spot) × (family : FamilyValue) × StandsAt g spot receipt.txn.root family × IsToldBy family receipt

-- the root key has no family
abbrev pub HasNone : GatheredValue → ℕ → Type 0
HasNone g root = (spot : Spot) (family : FamilyValue) → StandsAt g spot root family → ⊥

-- each receipt of an abort has the reply that the log before its position gives; a root key without
-- a family has no rows
abbrev pub AreAborted : GatheredValue → Type 0
AreAborted g =
    (receipt : ReceiptValue) → Contains g.receipts receipt → is_commit receipt.reply ≡ false
    → ((spot : Spot) × (family : FamilyValue) × StandsAt g spot receipt.txn.root family × IsReplyIn family receipt)
    ⊎ (HasNone g receipt.txn.root × IsReplyIn (absent receipt.txn.root) receipt)

-- each family that a root key began with is still there, perhaps with a longer log
abbrev pub GoOn : BeganWith → GatheredValue → Type 0
GoOn began g =
    (root : ℕ) (first : FamilyValue) → began.families root ≡ Some first
    → (spot : Spot) × (family : FamilyValue) × StandsAt g spot root family × GrowsFrom first family

pub record IsPlaced (o : OpeningValue) (g : GatheredValue) : Type 0 where
  pub fit : FitTogether o g
  pub once : StandOnce g
  pub opening : AllStand o g
  pub base : KeepBases o g
  pub named : NameEach g
  pub told : AreTold g
  pub aborted : AreAborted g
