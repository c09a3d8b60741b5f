-- One chunk at most covers a root key, of all links: so notes of two tree nodes share no key.
use Rattle.std.proofs.Common.{◌≡◌, ℕ, ◌-◌, ◌<◌, true, List, length, reverse, slice_get, Contains, Some, sym, ap, ap₂, ◌∙◌, subst, subst₂}
use Rattle.std.proofs.lemmas.Option.{same_Some, slice_get_within}
use Rattle.sq_moves.specs.Status.{is_begun}
use Rattle.sq_store.specs.declared.chunk.Note.{Note}
use Rattle.sq_store.specs.ChunkValue.{ChunkValue, covers}
use Rattle.sq_moves.specs.OpeningValue.{OpeningValue}
use Rattle.sq_moves.specs.Opening.{IsOpening}
use Rattle.sq_model.specs.Place.{extent_of, is_within}
use Rattle.sq_model.specs.Orderly.{Tiles, AreDisjoint}
use Rattle.sq_model.proofs.Lists.{Contains-slice_get, slice_get-Contains, flat_map_in}
use Rattle.sq_model.proofs.Apart.{cover_once}
use Rattle.sq_node_model.specs.BeganWith.{BeganWith}
use Rattle.sq_node_model.specs.NodeValue.{NodeValue}
use Rattle.sq_node_model.specs.Chunks.{cut_to, loaded_from}
use Rattle.sq_node_model.specs.Gathered.{GatheredLink, GatheredValue, Gathers}
use Rattle.sq_node_model.specs.Spots.{gathered_status, cut_notes, loaded_notes, loads_of}
use Rattle.sq_node_model.proofs.Members.{Contains-unreversed}
use Rattle.sq_node_model.proofs.Keys.{one_segment}
use Rattle.sq_node_model.proofs.Trees.{begun_apart}
use Rattle.sq_node_model.proofs.Lists.{map_at, at_reverse, same_from_end}
use Rattle.sq_node_model.proofs.Ends.{notes_of, ends, out, cut_notes_are, loads_are}
use Rattle.sq_node_model.proofs.Statuses.{grown}
use Rattle.sq_node_model.proofs.Cuts.{IsCutAt, cut_chunk, loaded_chunk, noted_at, about_node, about_begun, within, moved}

-- a chunk with this note, at its place
pub record IsNoted (o : OpeningValue) (began : BeganWith) (nodes : List NodeValue) (g : GatheredValue) (note : Note) : Type 0 where
  pub chunk : ChunkValue
  pub cut : IsCutAt o began nodes g chunk
  pub same : chunk.note ≡ note

-- the same, of a chunk that was loaded
pub record IsLoadNoted (o : OpeningValue) (began : BeganWith) (nodes : List NodeValue) (g : GatheredValue) (note : Note) : Type 0 where
  pub noted : IsNoted o began nodes g note
  pub among : noted.cut.number < length (loaded_from noted.cut.ends.to noted.cut.link.src)

-- two chunks are at one place of one link, and so are one
pub record AreOne (o : OpeningValue) (began : BeganWith) (nodes : List NodeValue) (g : GatheredValue) (chunk other : ChunkValue) (c : IsCutAt o began nodes g chunk) (d : IsCutAt o began nodes g other) : Type 0 where
  pub place : c.place ≡ d.place
  pub number : c.number ≡ d.number
  pub same : chunk ≡ other
  pub loaded : loaded_from c.ends.to c.link.src ≡ loaded_from d.ends.to d.link.src

module _ (o : OpeningValue) (began : BeganWith) (is : IsOpening o) (nodes : List NodeValue) (g : GatheredValue) (gathers : Gathers o began nodes g) where
  -- each note of a link is the note of a chunk
  pub note_at : (i : ℕ) (link : GatheredLink) (note : Note) → slice_get g.links i ≡ Some link → Contains link.notes note → IsNoted o began nodes g note
  note_at i link note there has =
      let e = ends o began nodes g gathers i link there in
      let here = subst (λ notes. slice_get notes has.0 ≡ Some note) (cut_notes_are o began nodes link e) (slice_get-Contains link.notes note has) in
      let found = map_at (λ (c : ChunkValue). c.note) (cut_to e.from link.dst) has.0 note here in
      record { chunk = found.0; cut = cut_chunk o began nodes g i link there e has.0 found.0 found.1; same = found.2 }

  pub cut_note : (note : Note) → Contains (cut_notes g) note → IsNoted o began nodes g note
  cut_note note has =
      let found = flat_map_in (λ (link : GatheredLink). link.notes) g.links note has in
      note_at (found.1).0 found.0 note (slice_get-Contains g.links found.0 found.1) found.2

  pub loaded_note : (note : Note) → Contains (loaded_notes g) note → IsLoadNoted o began nodes g note
  loaded_note note has =
      let found = flat_map_in loads_of g.links note has in
      let link = found.0 in
      let there = slice_get-Contains g.links link found.1 in
      let e = ends o began nodes g gathers (found.1).0 link there in
      let loaded = loaded_from e.to link.src in
      let among = subst (λ notes. Contains notes note) (loads_are o began nodes link e) found.2 in
      let here = map_at (λ (c : ChunkValue). c.note) loaded among.0 note (slice_get-Contains (notes_of loaded) note among) in
      record {
        noted = record { chunk = here.0; cut = loaded_chunk o began nodes g (found.1).0 link there e among.0 here.0 here.1; same = here.2 };
        among = slice_get_within loaded among.0 here.0 here.1;
      }

  module _ (root : ℕ) (chunk other : ChunkValue) (c : IsCutAt o began nodes g chunk) (d : IsCutAt o began nodes g other) (covered : covers chunk.note root ≡ true) (covered' : covers other.note root ≡ true) where
    -- two chunks that cover a root key are about one tree node
    pub one_seg : chunk.note.seg ≡ other.note.seg
    one_seg =
        one_segment o is root chunk.note.seg chunk.note.node other.note.seg other.note.node
        (within o began is nodes g gathers chunk c root covered) (within o began is nodes g gathers other d root covered')

    pub one_node : chunk.note.node ≡ other.note.node
    one_node =
        let seg = chunk.note.seg in
        begun_apart o is (gathered_status g seg) (grown o began nodes g gathers seg) root seg chunk.note.node other.note.node
        (about_node o began is nodes g gathers chunk c) (about_node o began is nodes g gathers other d)
        (within o began is nodes g gathers chunk c root covered)
        (subst (λ k. is_within (extent_of o k other.note.node) root ≡ true) (sym one_seg) (within o began is nodes g gathers other d root covered'))
        (about_begun o began is nodes g gathers chunk c)
        (subst (λ k. is_begun (gathered_status g k other.note.node) ≡ true) (sym one_seg) (about_begun o began is nodes g gathers other d))

    -- and of one link
    one_place : c.place ≡ d.place
    one_place =
        let from = moved o began is nodes g gathers chunk c root covered in
        let to = moved o began is nodes g gathers other d root covered' in
        gathers.each_link.one_each c.place d.place c.link d.link c.there d.there (sym from.source_is ∙ to.source_is) (sym from.destination_is ∙ to.destination_is)

  -- notes of two tree nodes share no key
  pub same_nodes : (one other : Note) (root : ℕ) → IsNoted o began nodes g one → IsNoted o began nodes g other
      → covers one root ≡ true → covers other root ≡ true → (one.seg ≡ other.seg) × (one.node ≡ other.node)
  same_nodes one other root a b covered covered' =
      let here = subst (λ (n : Note). covers n root ≡ true) (sym a.same) covered in
      let there = subst (λ (n : Note). covers n root ≡ true) (sym b.same) covered' in (
        ap (λ (n : Note). n.seg) (sym a.same) ∙ one_seg root a.chunk b.chunk a.cut b.cut here there ∙ ap (λ (n : Note). n.seg) b.same,
        ap (λ (n : Note). n.node) (sym a.same) ∙ one_node root a.chunk b.chunk a.cut b.cut here there ∙ ap (λ (n : Note). n.node) b.same,
      )

  pub apart : AreDisjoint (cut_notes g)
  apart i j one other root at at' covered covered' =
      same_nodes one other root (cut_note one (Contains-slice_get (cut_notes g) i one at)) (cut_note other (Contains-slice_get (cut_notes g) j other at')) covered covered'

  link_apart : (i : ℕ) (link : GatheredLink) → slice_get g.links i ≡ Some link → AreDisjoint (reverse link.notes)
  link_apart i link there a b one other root at at' covered covered' =
      same_nodes one other root
      (note_at i link one there (Contains-unreversed link.notes one (Contains-slice_get (reverse link.notes) a one at)))
      (note_at i link other there (Contains-unreversed link.notes other (Contains-slice_get (reverse link.notes) b other at')))
      covered covered'

  pub link_tiles : (i : ℕ) (link : GatheredLink) → slice_get g.links i ≡ Some link → Tiles o (reverse link.notes)
  link_tiles i link there =
      let e = ends o began nodes g gathers i link there in
      subst (λ notes. Tiles o (reverse notes)) (sym e.notes) (out o began nodes link e).tiles

  -- two chunks that cover a root key are one
  pub are_one : (root : ℕ) (chunk other : ChunkValue) (c : IsCutAt o began nodes g chunk) (d : IsCutAt o began nodes g other)
      → covers chunk.note root ≡ true → covers other.note root ≡ true → AreOne o began nodes g chunk other c d
  are_one root chunk other c d covered covered' =
      let notes = c.link.notes in
      let place = one_place root chunk other c d covered covered' in
      let link : d.link ≡ c.link = same_Some d.link c.link (sym d.there ∙ subst (λ i. slice_get g.links i ≡ Some c.link) place c.there) in
      let here = noted_at o began is nodes g gathers chunk c in
      let there : slice_get notes d.number ≡ Some other.note = subst (λ (l : GatheredLink). slice_get l.notes d.number ≡ Some other.note) link (noted_at o began is nodes g gathers other d) in
      let once = cover_once o (reverse notes) (link_tiles c.place c.link c.there) (link_apart c.place c.link c.there)
      (length notes - 1 - c.number) (length notes - 1 - d.number) root chunk.note other.note (at_reverse notes c.number chunk.note here) (at_reverse notes d.number other.note there) covered covered' in
      let low = slice_get_within notes c.number chunk.note here in
      let high = slice_get_within notes d.number other.note there in
      let number = same_from_end (length notes) c.number d.number low high once in
      let from : d.ends.from ≡ c.ends.from =
      same_Some d.ends.from c.ends.from (sym d.ends.from_there ∙ subst (λ (l : GatheredLink). slice_get nodes l.src ≡ Some c.ends.from) (sym link) c.ends.from_there) in
      let to : d.ends.to ≡ c.ends.to =
      same_Some d.ends.to c.ends.to (sym d.ends.to_there ∙ subst (λ (l : GatheredLink). slice_get nodes l.dst ≡ Some c.ends.to) (sym link) c.ends.to_there) in
      let at : slice_get (cut_to c.ends.from c.link.dst) d.number ≡ Some other = subst₂ (λ n (l : GatheredLink). slice_get (cut_to n l.dst) d.number ≡ Some other) from link d.at in
      record {
        place = place;
        number = number;
        same = same_Some chunk other (sym c.at ∙ subst (λ k. slice_get (cut_to c.ends.from c.link.dst) k ≡ Some other) (sym number) at);
        loaded = ap₂ (λ n (l : GatheredLink). loaded_from n l.src) (sym to) (sym link);
      }
