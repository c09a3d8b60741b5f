-- What is under way on a link is what its history says.
use Rattle.std.proofs.Common.{◌≡◌, ℕ, zero, suc, false, List, [], ◌∷◌, refl, sym, ap, ◌∙◌, subst, true≢false, map}
use Rattle.std.specs.Prelude.{◌==◌, ◌&&◌, drop, reverse, slice_get, Option, Some, None, is_some}
use Rattle.std.specs.Option.{option_map}
use Rattle.std.specs.List.{Contains}
use Rattle.std.proofs.lemmas.Bool.{eqb-true, and_parts}
use Rattle.std.proofs.lemmas.List.{reverse-reverse}
use Rattle.std.proofs.lemmas.Option.{slice_get-map}
use Rattle.sq_store.specs.declared.chunk.Note.{Note}
use Rattle.sq_store.specs.ChunkValue.{ChunkValue}
use Rattle.sq_moves.specs.ReconValue.{is_link}
use Rattle.sq_moves.specs.OpeningValue.{OpeningValue}
use Rattle.sq_moves.specs.Opening.{IsOpening}
use Rattle.sq_model.specs.Trace.{Trace, notes, link, load_count}
use Rattle.sq_model.specs.Legal.{IsLegal}
use Rattle.sq_model.proofs.Lists.{Contains-slice_get, kept_in}
use Rattle.sq_model.proofs.Notes.{note_goes}
use Rattle.sq_model.proofs.Keys.{linked}
use Rattle.sq_transition.specs.WorldValue.{WorldValue, WholeLink, link_index, link_value, under_way}
use Rattle.sq_transition.specs.Holds.{Holds, LinkHolds}
use Rattle.sq_transition.proofs.Links.{index_found}
use Rattle.sq_world.specs.Readers.{way_of, chunk_at, way_notes, IsChunkAfter}

empty_if : {X : Type 0} (xs : List X) → ((x : X) → Contains xs x → ⊥) → xs ≡ []
empty_if [] none = refl
empty_if (x ∷ xs) none = absurd (none x (Contains-slice_get (x ∷ xs) 0 x refl))

none_left : (n i : ℕ) → slice_get {X = Note} (drop n []) i ≡ None
none_left zero i = refl
none_left (suc n) i = refl

module _ (o : OpeningValue) (t : Trace) (w : WorldValue) (is : IsOpening o) (legal : IsLegal o t) (h : Holds o t w) where
  -- nothing was cut for a link that isn't there
  none_cut : (src dst : ℕ) → is_link o.recon.ranges src dst ≡ false → link src dst (notes t) ≡ []
  none_cut src dst none = empty_if (link src dst (notes t)) on_none
    where
      on_none : (note : Note) → Contains (link src dst (notes t)) note → ⊥
      on_none note has =
          let kept = kept_in (λ (note : Note). (note.src == src) && (note.dst == dst)) (notes t) note has in
          let goes = note_goes o t legal note kept.0 in
          let from : goes.segment.src ≡ src = goes.source ∙ eqb-true note.src src (and_parts (note.src == src) (note.dst == dst) kept.1).0 in
          let to : goes.segment.dst ≡ dst = goes.destination ∙ eqb-true note.dst dst (and_parts (note.src == src) (note.dst == dst) kept.1).1 in
          true≢false (sym (linked o is note.seg goes.segment goes.there) ∙ (λ k. is_link o.recon.ranges (from k) (to k)) ∙ none)

  chunk_by : (src dst i : ℕ) (l : WholeLink) → LinkHolds o t l → map (λ (c : ChunkValue). c.note) (under_way l) ≡ way_notes t src dst
      → (found : Option ChunkValue) → slice_get (under_way l) i ≡ found → IsChunkAfter o t src dst i found
  chunk_by src dst i l lh way None at =
      sym (ap (λ ns. slice_get ns i) way) ∙ slice_get-map (λ (c : ChunkValue). c.note) (under_way l) i ∙ ap (option_map (λ (c : ChunkValue). c.note)) at
  chunk_by src dst i l lh way (Some chunk) at = (
    sym (ap (λ ns. slice_get ns i) way) ∙ slice_get-map (λ (c : ChunkValue). c.note) (under_way l) i ∙ ap (option_map (λ (c : ChunkValue). c.note)) at,
    lh.chunks i chunk at,
  )

  by_place : (src dst i : ℕ) (at : Option ℕ) → link_index w src dst ≡ at → IsChunkAfter o t src dst i (slice_get (way_of w at) i)
  by_place src dst i None e =
      let none : is_link o.recon.ranges src dst ≡ false = sym (h.links.ends src dst) ∙ ap is_some e in
      subst (λ ns. slice_get (drop (load_count t src dst) (reverse ns)) i ≡ None) (sym (none_cut src dst none)) (none_left (load_count t src dst) i)
  by_place src dst i (Some at) e =
      let l = link_value w at in
      let from = index_found w src dst at e in
      let lh = h.links.each at from.within in
      let cut : l.out.notes ≡ reverse (link src dst (notes t)) = sym (reverse-reverse l.out.notes) ∙ ap reverse (lh.notes ∙ (λ k. link (from.starts k) (from.ends k) (notes t))) in
      let count : load_count t l.src l.dst ≡ load_count t src dst = λ k. load_count t (from.starts k) (from.ends k) in
      let way : map (λ (c : ChunkValue). c.note) (under_way l) ≡ way_notes t src dst = lh.way ∙ (λ k. drop (count k) (cut k)) in
      chunk_by src dst i l lh way (slice_get (under_way l) i) refl

  pub is_chunk_after : (src dst i : ℕ) → IsChunkAfter o t src dst i (chunk_at w src dst i)
  is_chunk_after src dst i = by_place src dst i (link_index w src dst) refl
