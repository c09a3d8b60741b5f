-- A node keeps what holds once it cuts a chunk.
use Rattle.std.proofs.Common.{◌≡◌, inl, inr, ℕ, true, nat_le, nat_lt, [], ◌∷◌, ◌++◌, length, slice_get, Contains, Some, None, sym, ap, ap₂, ◌∙◌, subst, append-nil, arith}
use Rattle.std.specs.Prelude.{reverse, option_to_list}
use Rattle.std.proofs.lemmas.Bool.{cases_Bool, and_from, le-leb, lt-ltb}
use Rattle.sq_store.specs.ChunkValue.{ChunkValue, covers}
use Rattle.sq_store.specs.StoreValue.{families_between, without_between}
use Rattle.sq_moves.specs.OpeningValue.{OpeningValue}
use Rattle.sq_moves.specs.Opening.{IsOpening}
use Rattle.sq_exec.specs.Work.{WorkValue, work_after}
use Rattle.sq_exec.specs.OutLink.{OutLinkValue}
use Rattle.sq_model.specs.Place.{extent_of, is_within}
use Rattle.sq_model.specs.Links.{reached}
use Rattle.sq_model.proofs.Lists.{Contains-slice_get}
use Rattle.sq_model.proofs.Notes.{goes_once}
use Rattle.sq_model.proofs.Tiles.{reached_within}
use Rattle.sq_model.proofs.Apart.{covers_bounds}
use Rattle.sq_node_model.specs.Stages.{is_on_link_in}
use Rattle.sq_node_model.proofs.Staged.{on_link_goes}
use Rattle.sq_node_model.specs.BeganWith.{BeganWith}
use Rattle.sq_node_model.specs.NodeValue.{NodeValue, put}
use Rattle.sq_node_model.specs.Steps.{node_cut}
use Rattle.sq_node_model.specs.Chunks.{cut_to, HasCut, HasLoaded}
use Rattle.sq_node_model.specs.BegunHolds.{IsNamed}
use Rattle.sq_node_model.specs.OutHolds.{IsOpenWork, OutHolds}
use Rattle.sq_node_model.specs.FamiliesHold.{IsHome}
use Rattle.sq_node_model.specs.NodeHolds.{NodeHolds}
use Rattle.sq_node_model.proofs.Puts.{put_each, put_same, put_other}
use Rattle.sq_node_model.proofs.OneMore.{IsOneMore, one_more}
use Rattle.sq_node_model.proofs.Keys.{one_segment, moved_from}
use Rattle.sq_node_model.proofs.Outs.{IsNoteOf, tile_of, noted, out_cut}
use Rattle.sq_node_model.proofs.Facts.{loaded_away, loaded_carried, own_note, own_within}
use Rattle.sq_node_model.proofs.FamiliesCut.{store_cut, families_cut, receipts_cut, whole_cut}

module _ {began : BeganWith} (o : OpeningValue) (is : IsOpening o) (node : NodeValue) (h : NodeHolds o began node) (dst place : ℕ) (work : WorkValue) (chunk : ChunkValue)
    (there : slice_get (node.outs dst).work place ≡ Some work) (empty : (node.outs dst).outbox ≡ None)
    (note_is : IsNoteOf node.part dst (length (node.outs dst).notes) work chunk.note) (taken : chunk.families ≡ families_between node.store chunk.note.lo chunk.note.hi) where
  was : IsOpenWork o began.stage node.part node.begun (node.outs dst).notes dst work
  was = (h.outs dst).work work (Contains-slice_get (node.outs dst).work place work there)

  -- the chunk's keys are of the work's node
  within_work : (root : ℕ) → covers chunk.note root ≡ true → is_within (extent_of o work.seg work.node) root ≡ true
  within_work root covered =
      let bounds = covers_bounds chunk.note root covered in
      let low = bounds.0 in
      let high = bounds.1 in
      let keys = extent_of o work.seg work.node in
      let begins = (reached_within o (reverse (node.outs dst).notes) (h.outs dst).tiles work.seg work.node).from in
      let rest = was.rest in
      let hi = was.upto in
      let from = note_is.from in
      let upto = note_is.upto in
      and_from (nat_le keys.lo root) (nat_lt root keys.hi) (le-leb keys.lo root (omega arith)) (lt-ltb root keys.hi (omega arith))

  -- no chunk covered one of them before
  uncovered : (root : ℕ) → covers chunk.note root ≡ true → (other : ChunkValue) → HasCut node other → covers other.note root ≡ true → ⊥
  uncovered root covered other has covered' =
      let within = own_within o is node h other root has covered' in
      let own = own_note o is node h other has in
      let same_seg : other.note.seg ≡ work.seg = one_segment o is root other.note.seg other.note.node work.seg work.node within (within_work root covered) in
      let named : IsNamed (node.begun work.seg) other.note.node = subst (λ g. IsNamed (node.begun g) other.note.node) same_seg own.about in
      let same_node : other.note.node ≡ work.node =
      h.begun.apart root work.seg other.note.node work.node named (work.pull, was.on) (subst (λ g. is_within (extent_of o g other.note.node) root ≡ true) same_seg within) (within_work root covered) in
      let same_link : has.0 ≡ dst =
      (goes_once o work.seg node.part has.0 node.part dst (on_link_goes o began.stage node.part has.0 work.seg (subst (λ g. is_on_link_in o began.stage node.part has.0 g ≡ true) same_seg own.segment)) (on_link_goes o began.stage node.part dst work.seg was.segment)).1 in
      let here : Contains (cut_to node dst) other = subst (λ d. Contains (cut_to node d) other) same_link has.1 in
      let out = node.outs dst in
      let behind = (tile_of o node.part dst node.begun out.notes out.work (cut_to node dst) (h.outs dst) other.note (noted o node.part dst node.begun out.notes out.work (cut_to node dst) (h.outs dst) other here)).behind in
      let reach : reached o other.note.seg other.note.node (reverse out.notes) ≡ work.rest = ap₂ (λ g m. reached o g m (reverse out.notes)) same_seg same_node ∙ sym was.rest in
      let high = (covers_bounds other.note root covered').1 in
      let low = (covers_bounds chunk.note root covered).0 in
      let from = note_is.from in
      omega arith

  home : (root : ℕ) → covers chunk.note root ≡ true → IsHome o began.stage node.part (HasCut node) root
  home root covered = record {
    owned = (moved_from o is began.stage root work.seg work.node node.part dst (within_work root covered) was.segment).source_is;
    uncut = λ other has.
        elim (cases_Bool (covers other.note root)) [
          | inl e ↦ absurd (uncovered root covered other has e)
          | inr e ↦ e
        ];
  }

  abbrev out : OutLinkValue
  out = record {
    notes = (node.outs dst).notes ++ chunk.note ∷ [];
    work = work_after (node.outs dst).work place chunk.note.hi;
    outbox = Some chunk;
  }

  abbrev after : NodeValue
  after = node_cut node dst out (without_between node.store chunk.note.lo chunk.note.hi)

  -- what was cut for the destination
  cut_before : cut_to node dst ≡ node.sent dst
  cut_before = ap (λ box. node.sent dst ++ option_to_list box) empty ∙ append-nil (node.sent dst)

  cut_after : (k : ℕ) → cut_to after k ≡ put dst (cut_to node dst ++ chunk ∷ []) (cut_to node) k
  cut_after =
      put_each (λ k (end : OutLinkValue). node.sent k ++ option_to_list end.outbox ≡ put dst (cut_to node dst ++ chunk ∷ []) (cut_to node) k) dst out node.outs
      (ap (λ list. list ++ chunk ∷ []) (sym cut_before) ∙ sym (put_same dst (cut_to node dst ++ chunk ∷ []) (cut_to node)))
      (λ k apart. sym (put_other dst (cut_to node dst ++ chunk ∷ []) (cut_to node) k apart))

  more : IsOneMore (HasCut node) (HasCut after) chunk
  more = one_more (cut_to node) (cut_to after) dst chunk cut_after

  outs_after : (k : ℕ) → OutHolds o began node.part node.begun k (after.outs k).notes (after.outs k).work (cut_to after k)
  outs_after =
      put_each (λ k (end : OutLinkValue). OutHolds o began node.part node.begun k end.notes end.work (node.sent k ++ option_to_list end.outbox)) dst out node.outs
      (subst (λ list. OutHolds o began node.part node.begun dst out.notes out.work (list ++ chunk ∷ [])) cut_before
      (out_cut o node.part dst node.begun (node.outs dst).notes (node.outs dst).work (cut_to node dst) (h.outs dst) place work there chunk note_is
      (whole_cut o node.part (HasCut node) (HasCut after) (HasLoaded node) node.store chunk more taken home (loaded_away o is node h) (loaded_carried o is node h) h.store h.families)))
      (λ k apart. h.outs k)

  pub keeps_cut : NodeHolds o began after
  keeps_cut =
      assumption (
        outs_after,
        store_cut o node.part (HasCut node) (HasCut after) (HasLoaded node) node.store chunk more taken home (loaded_away o is node h) (loaded_carried o is node h) h.store h.families,
        families_cut o node.part (HasCut node) (HasCut after) (HasLoaded node) node.store chunk more taken home (loaded_away o is node h) (loaded_carried o is node h) h.store h.families,
        receipts_cut o node.part (HasCut node) (HasCut after) (HasLoaded node) node.store chunk more taken home (loaded_away o is node h) (loaded_carried o is node h) h.store h.families node.receipts h.receipts,
        h,
      )
