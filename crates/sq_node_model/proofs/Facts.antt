-- What follows of a node: whose keys its chunks cover.
use Rattle.std.proofs.Common.{◌≡◌, ℕ, true}
use Rattle.std.specs.Prelude.{◌≢◌}
use Rattle.sq_schema.specs.Family.{FamilyValue}
use Rattle.sq_store.specs.ChunkValue.{ChunkValue, covers}
use Rattle.sq_moves.specs.OpeningValue.{OpeningValue}
use Rattle.sq_moves.specs.Opening.{IsOpening}
use Rattle.sq_model.specs.Place.{extent_of, is_within}
use Rattle.sq_model.specs.Staged.{owner_in}
use Rattle.sq_node_model.specs.BeganWith.{BeganWith}
use Rattle.sq_node_model.specs.NodeValue.{NodeValue}
use Rattle.sq_node_model.specs.Chunks.{cut_to, HasCut, HasLoaded, IsCovered}
use Rattle.sq_node_model.specs.OutHolds.{IsOwnNote}
use Rattle.sq_node_model.specs.FamiliesHold.{IsCarried}
use Rattle.sq_node_model.specs.NodeHolds.{NodeHolds}
use Rattle.sq_node_model.proofs.Keys.{arrived_within, moved_from, not_owned}
use Rattle.sq_node_model.proofs.Outs.{noted, cut_within}
use Rattle.sq_node_model.proofs.Carried.{carried_covered}

module _ {began : BeganWith} (o : OpeningValue) (is : IsOpening o) (node : NodeValue) (h : NodeHolds o began node) where
  -- a loaded chunk covers keys of its node
  pub loaded_within : (chunk : ChunkValue) (root : ℕ) → HasLoaded node chunk → covers chunk.note root ≡ true → is_within (extent_of o chunk.note.seg chunk.note.node) root ≡ true
  loaded_within chunk root has covered = arrived_within o began.stage has.0 node.part chunk.note root ((h.ins has.0).arrived chunk has.1) covered

  -- which the partition didn't own
  pub loaded_away : (root : ℕ) → IsCovered (HasLoaded node) root → owner_in o began.stage root ≢ node.part
  loaded_away root covered =
      let chunk = covered.0 in
      let has = covered.1 in
      not_owned o is began.stage root chunk.note.seg chunk.note.node has.0 node.part (loaded_within chunk root has covered.2) ((h.ins has.0).arrived chunk has.1).segment

  pub loaded_carried : (chunk : ChunkValue) (root : ℕ) (family : FamilyValue) → HasLoaded node chunk → IsCarried chunk root family → covers chunk.note root ≡ true
  loaded_carried chunk root family has carried = carried_covered chunk root family ((h.ins has.0).rising chunk has.1) carried

  -- a chunk that was cut covers keys of its node
  pub own_note : (chunk : ChunkValue) (has : HasCut node chunk) → IsOwnNote o began.stage node.part node.begun has.0 chunk.note
  own_note chunk has =
      let out = h.outs has.0 in
      out.own chunk.note (noted o node.part has.0 node.begun (node.outs has.0).notes (node.outs has.0).work (cut_to node has.0) out chunk has.1)

  pub own_within : (chunk : ChunkValue) (root : ℕ) → HasCut node chunk → covers chunk.note root ≡ true → is_within (extent_of o chunk.note.seg chunk.note.node) root ≡ true
  own_within chunk root has covered =
      cut_within o node.part has.0 node.begun (node.outs has.0).notes (node.outs has.0).work (cut_to node has.0) (h.outs has.0) chunk root has.1 covered

  -- which the partition owned
  pub own_source : (chunk : ChunkValue) (root : ℕ) → HasCut node chunk → covers chunk.note root ≡ true → owner_in o began.stage root ≡ node.part
  own_source chunk root has covered =
      (moved_from o is began.stage root chunk.note.seg chunk.note.node node.part has.0 (own_within chunk root has covered) (own_note chunk has).segment).source_is

  pub cut_carried : (chunk : ChunkValue) (root : ℕ) (family : FamilyValue) → HasCut node chunk → IsCarried chunk root family → (owner_in o began.stage root ≡ node.part) × (covers chunk.note root ≡ true)
  cut_carried chunk root family has carried =
      let covered = carried_covered chunk root family ((h.outs has.0).chunks chunk has.1).rising carried in
      (own_source chunk root has covered, covered)
