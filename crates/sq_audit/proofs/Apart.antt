-- Where each link is placed and the trees are grown, notes of two tree nodes share no key.
use Rattle.std.proofs.Common.{◌≡◌, ℕ, true, reverse, slice_get, Contains, Some, sym, subst}
use Rattle.sq_gather.specs.Prelude.{is_begun, IsGrown, Note, covers, OpeningValue, IsOpening, extent_of, is_within, AreDisjoint, GatheredLink, GatheredValue, gathered_status, cut_notes, IsLinkNote}
use Rattle.sq_gather.proofs.Prelude.{Contains-slice_get, slice_get-Contains, flat_map_in, tile, covers_extent, one_segment, Contains-reverse, begun_apart}
use Rattle.sq_audit.specs.Notes.{LinksPlaced}

-- a note of a link
pub record IsNoteOf (g : GatheredValue) (note : Note) : Type 0 where
  pub place : ℕ
  pub link : GatheredLink
  pub there : slice_get g.links place ≡ Some link
  pub among : Contains link.notes note

-- each note is one of a link's
pub note_of : (g : GatheredValue) (note : Note) → Contains (cut_notes g) note → IsNoteOf g note
note_of g note has =
    let found = flat_map_in (λ (link : GatheredLink). link.notes) g.links note has in
    record { place = (found.1).0; link = found.0; there = slice_get-Contains g.links found.0 found.1; among = found.2 }

module _ (o : OpeningValue) (is : IsOpening o) (g : GatheredValue) (links : LinksPlaced o g) where
  module _ (note : Note) (n : IsNoteOf g note) where
    about : IsLinkNote o g n.link note
    about = (links n.place n.link n.there).about note n.among

    module _ (root : ℕ) (covered : covers note root ≡ true) where
      -- a note covers keys of its node alone
      pub within : is_within (extent_of o note.seg note.node) root ≡ true
      within = covers_extent o (reverse n.link.notes) note root (tile o (reverse n.link.notes) (links n.place n.link n.there).tiles note (Contains-reverse n.link.notes note n.among)) covered

  module _ (grown : (seg : ℕ) → IsGrown (gathered_status g seg)) where
    -- two notes that cover a root key are about one node
    same_nodes : (one other : Note) (root : ℕ) → IsNoteOf g one → IsNoteOf g other → covers one root ≡ true → covers other root ≡ true → (one.seg ≡ other.seg) × (one.node ≡ other.node)
    same_nodes one other root n m covered covered' =
        let here = within one n root covered in
        let there = within other m root covered' in
        let seg = one_segment o is root one.seg one.node other.seg other.node here there in (
          seg,
          begun_apart o is (gathered_status g one.seg) (grown one.seg) root one.seg one.node other.node (about one n).node (about other m).node here
              (subst (λ k. is_within (extent_of o k other.node) root ≡ true) (sym seg) there)
              (about one n).begun
              (subst (λ k. is_begun (gathered_status g k other.node) ≡ true) (sym seg) (about other m).begun),
        )

    -- notes of two nodes share no key
    pub apart : AreDisjoint (cut_notes g)
    apart i j one other root at at' covered covered' =
        same_nodes one other root (note_of g one (Contains-slice_get (cut_notes g) i one at)) (note_of g other (Contains-slice_get (cut_notes g) j other at')) covered covered'
