-- On a legal trace a root key's segment, and the node that covers its leaf, say whether it was given up, cut and
-- loaded.
use Rattle.std.proofs.Common.{◌≡◌, ℕ, ◌<◌, true, false, ◌&&◌, nat_le, nat_lt, List, slice_get, Contains, Some, None, sym, ap₂, ◌∙◌, subst, subst₂, arith}
use Rattle.std.proofs.lemmas.Bool.{and_parts, and_from, lt-ltb, false_from_ne_true}
use Rattle.sq_moves.specs.Status.{is_begun, covering}
use Rattle.sq_moves.proofs.Covering.{covering_is}
use Rattle.sq_store.specs.declared.chunk.Note.{Note}
use Rattle.sq_store.specs.ChunkValue.{covers}
use Rattle.sq_moves.specs.declared.recon.Range.{Range}
use Rattle.sq_moves.specs.ReconValue.{segment_of, leaf_of}
use Rattle.sq_moves.specs.OpeningValue.{OpeningValue}
use Rattle.sq_moves.specs.Opening.{IsOpening}
use Rattle.sq_moves.proofs.Bools.{same_test}
use Rattle.sq_model.specs.Trace.{Trace, notes, loads}
use Rattle.sq_model.specs.Nodes.{Item, status_of, items}
use Rattle.sq_model.specs.Place.{is_covered, extent_of, is_within, is_begun_over}
use Rattle.sq_model.specs.Links.{is_about, reached}
use Rattle.sq_model.specs.Orderly.{Tiles}
use Rattle.sq_model.specs.Legal.{IsLegal}
use Rattle.sq_model.proofs.Lists.{any_in, list_any-Contains}
use Rattle.sq_model.proofs.Statuses.{grown, item_begun, begun_item, item_for}
use Rattle.sq_model.proofs.Tiles.{tile, covers_of, covered_is}
use Rattle.sq_model.proofs.Notes.{note_begun, loaded_in, tiles_notes, tiles_loads}
use Rattle.sq_model.proofs.Keys.{IsIn, found_in_segment, above_within}
use Rattle.sq_model.proofs.Apart.{covers_bounds, covers_extent, begun_over}

module _ (o : OpeningValue) (is : IsOpening o) (t : Trace) (legal : IsLegal o t) where
  -- a key that no segment holds was not given up
  pub begun_over_none : (root : ℕ) → segment_of o.recon.segments root ≡ None → is_begun_over o t root ≡ false
  begun_over_none root none =
      false_from_ne_true (is_begun_over o t root) (λ any.
      let at = any_in (λ (item : Item). is_within (extent_of o item.seg item.node) root) (items t) any in
      let over = begun_over o is t legal root at.0.seg at.0.node at.2 (item_begun o t legal at.0 at.1) in
      let e : Some at.0.seg ≡ None = sym over.1.found ∙ none in
      absurd cc)

  -- where notes cover a key, they are about the node that covers it
  covered_at : (ns : List Note) → Tiles o ns → ((note : Note) → Contains ns note → is_begun (status_of t note.seg note.node) ≡ true) → (root : ℕ) → is_covered ns root ≡ true
      → (note : Note) × (segment : Range) × (segment_of o.recon.segments root ≡ Some note.seg) × IsIn o root note.seg segment × (covering (status_of t note.seg) (leaf_of o.recon.width segment root) ≡ note.node) × (is_begun (status_of t note.seg note.node) ≡ true) × (root < reached o note.seg note.node ns)
  covered_at ns tiles begun root any =
      let at = any_in (λ (note : Note). covers note root) ns any in
      let here = tile o ns tiles at.0 at.1 in
      let over = begun_over o is t legal root at.0.seg at.0.node (covers_extent o ns at.0 root here at.2) (begun at.0 at.1) in
      let behind = here.behind in
      let high = (covers_bounds at.0 root at.2).1 in
      (at.0, over.0, over.1.found, over.1.at, over.1.node, begun at.0 at.1, omega arith)

  covered_none : (ns : List Note) → Tiles o ns → ((note : Note) → Contains ns note → is_begun (status_of t note.seg note.node) ≡ true) → (root : ℕ) → segment_of o.recon.segments root ≡ None → is_covered ns root ≡ false
  covered_none ns tiles begun root none =
      false_from_ne_true (is_covered ns root) (λ any.
      let at = covered_at ns tiles begun root any in
      let e : Some at.0.seg ≡ None = sym at.2 ∙ none in
      absurd cc)

  loads_begun : (note : Note) → Contains (loads t) note → is_begun (status_of t note.seg note.node) ≡ true
  loads_begun note has = note_begun o t legal note (loaded_in o t legal note has)

  -- nor cut, nor loaded
  pub cut_none : (root : ℕ) → segment_of o.recon.segments root ≡ None → is_covered (notes t) root ≡ false
  cut_none root none = covered_none (notes t) (tiles_notes o t legal) (note_begun o t legal) root none

  pub loaded_none : (root : ℕ) → segment_of o.recon.segments root ≡ None → is_covered (loads t) root ≡ false
  loaded_none root none = covered_none (loads t) (tiles_loads o t legal) loads_begun root none

  module _ (root g : ℕ) (segment : Range) (found : segment_of o.recon.segments root ≡ Some g) (there : slice_get o.recon.segments g ≡ Some segment) where
    at_segment : IsIn o root g segment
    at_segment =
        let at = found_in_segment o is root g found in
        let same : at.0 ≡ segment = let e = sym at.1.there ∙ there in cc in
        subst (IsIn o root g) same at.1

    -- the node that covers the key's leaf
    node : ℕ
    node = covering (status_of t g) (leaf_of o.recon.width segment root)

    node_within : is_within (extent_of o g node) root ≡ true
    unfolding node
    node_within = above_within o is root g node segment at_segment (covering_is (status_of t g) (grown o t legal g) (leaf_of o.recon.width segment root) at_segment.leaf).above

    -- another begun node that has the key in its extent is this one
    same_node : (h n : ℕ) (other : Range) → segment_of o.recon.segments root ≡ Some h → IsIn o root h other → covering (status_of t h) (leaf_of o.recon.width other root) ≡ n → (h ≡ g) × (n ≡ node)
    unfolding node
    same_node h n other found' at' covers' =
        let same : h ≡ g = let e = sym found' ∙ found in cc in
        let segments : other ≡ segment = let e = sym (subst (λ k. slice_get o.recon.segments k ≡ Some other) same at'.there) ∙ there in cc in
        (same, sym covers' ∙ ap₂ (λ k (s : Range). covering (status_of t k) (leaf_of o.recon.width s root)) same segments)

    -- a key was given up where the node that covers it is begun
    pub begun_over_is : is_begun_over o t root ≡ is_begun (status_of t g (covering (status_of t g) (leaf_of o.recon.width segment root)))
    unfolding node
    begun_over_is = same_test (is_begun_over o t root) (is_begun (status_of t g node)) there_is back
      where
        there_is : is_begun_over o t root ≡ true → is_begun (status_of t g node) ≡ true
        there_is any =
            let at = any_in (λ (item : Item). is_within (extent_of o item.seg item.node) root) (items t) any in
            let begun = item_begun o t legal at.0 at.1 in
            let over = begun_over o is t legal root at.0.seg at.0.node at.2 begun in
            let same = same_node at.0.seg at.0.node over.0 over.1.found over.1.at over.1.node in
            subst₂ (λ k n. is_begun (status_of t k n) ≡ true) same.0 same.1 begun

        back : is_begun (status_of t g node) ≡ true → is_begun_over o t root ≡ true
        back begun =
            list_any-Contains (λ (item : Item). is_within (extent_of o item.seg item.node) root) (items t) (item_for g node (status_of t g node)) (begun_item o t legal g node begun) node_within

    covered_node : (ns : List Note) → Tiles o ns → ((note : Note) → Contains ns note → is_begun (status_of t note.seg note.node) ≡ true) → is_covered ns root ≡ (is_begun (status_of t g node) && nat_lt root (reached o g node ns))
    covered_node ns tiles begun = same_test (is_covered ns root) (is_begun (status_of t g node) && nat_lt root (reached o g node ns)) there_is back
      where
        there_is : is_covered ns root ≡ true → (is_begun (status_of t g node) && nat_lt root (reached o g node ns)) ≡ true
        there_is any =
            let at = covered_at ns tiles begun root any in
            let same = same_node at.0.seg at.0.node at.1 at.2 at.3 at.4 in
            subst₂ (λ k n. (is_begun (status_of t k n) && nat_lt root (reached o k n ns)) ≡ true) same.0 same.1
            (and_from (is_begun (status_of t at.0.seg at.0.node)) (nat_lt root (reached o at.0.seg at.0.node ns)) at.5 (lt-ltb root (reached o at.0.seg at.0.node ns) at.6))

        back : (is_begun (status_of t g node) && nat_lt root (reached o g node ns)) ≡ true → is_covered ns root ≡ true
        back both =
            let parts = and_parts (is_begun (status_of t g node)) (nat_lt root (reached o g node ns)) both in
            let keys = extent_of o g node in
            let low = (and_parts (nat_le keys.lo root) (nat_lt root keys.hi) node_within).0 in
            let any = covered_is o ns tiles g node root ∙ and_from (nat_le keys.lo root) (nat_lt root (reached o g node ns)) low parts.1 in
            let at = any_in (covers_of g node root) ns any in
            list_any-Contains (λ (note : Note). covers note root) ns at.0 at.1 (and_parts (is_about g node at.0) (covers at.0 root) at.2).1

    -- and was cut where the node's notes reach past it
    pub cut_is : is_covered (notes t) root ≡ (is_begun (status_of t g (covering (status_of t g) (leaf_of o.recon.width segment root))) && nat_lt root (reached o g (covering (status_of t g) (leaf_of o.recon.width segment root)) (notes t)))
    unfolding node
    cut_is = covered_node (notes t) (tiles_notes o t legal) (note_begun o t legal)

    -- and loaded where its loads do
    pub loaded_is : is_covered (loads t) root ≡ (is_begun (status_of t g (covering (status_of t g) (leaf_of o.recon.width segment root))) && nat_lt root (reached o g (covering (status_of t g) (leaf_of o.recon.width segment root)) (loads t)))
    unfolding node
    loaded_is = covered_node (loads t) (tiles_loads o t legal) loads_begun
