-- The chunks of what is gathered, each at its place of the link that it was cut for.
use Rattle.std.proofs.Common.{◌≡◌, ℕ, Bool, ◌<◌, true, ◌==◌, ◌&&◌, List, [], length, get_or, slice_get, Contains, Option, Some, None, refl, sym, ap, ◌∙◌, subst, subst₂, true≢false}
use Rattle.std.specs.Prelude.{position, is_some}
use Rattle.std.proofs.lemmas.Bool.{and_parts, and_from, eqb-true}
use Rattle.std.proofs.lemmas.Option.{same_Some, slice_get-get_or}
use Rattle.std.proofs.lemmas.List.Quantifiers.{position-Some}
use Rattle.sq_schema.specs.Family.{FamilyValue}
use Rattle.sq_moves.specs.Status.{is_begun}
use Rattle.sq_store.specs.ChunkValue.{ChunkValue, covers}
use Rattle.sq_moves.specs.ReconValue.{is_link}
use Rattle.sq_moves.specs.OpeningValue.{OpeningValue}
use Rattle.sq_moves.specs.Opening.{IsOpening}
use Rattle.sq_moves.specs.Node.{is_node}
use Rattle.sq_model.specs.Place.{extent_of, is_within}
use Rattle.sq_model.proofs.Lists.{Contains-slice_get, slice_get-Contains}
use Rattle.sq_model.proofs.Keys.{linked}
use Rattle.sq_node_model.specs.Stages.{runs_in, is_link_in, is_on_link_in}
use Rattle.sq_node_model.proofs.Staged.{on_link_goes, link_runs}
use Rattle.sq_node_model.specs.BeganWith.{BeganWith}
use Rattle.sq_node_model.specs.NodeValue.{NodeValue}
use Rattle.sq_node_model.specs.Chunks.{cut_to, loaded_from, HasCut, HasLoaded}
use Rattle.sq_node_model.specs.OutHolds.{IsOwnNote}
use Rattle.sq_node_model.specs.FamiliesHold.{IsCarried}
use Rattle.sq_node_model.specs.Gathered.{GatheredLink, GatheredValue, Gathers}
use Rattle.sq_node_model.specs.Spots.{gathered_status}
use Rattle.sq_node_model.proofs.Keys.{IsMovedFrom, moved_from}
use Rattle.sq_node_model.proofs.Facts.{own_note, own_within, cut_carried}
use Rattle.sq_node_model.proofs.Members.{slice_get-front}
use Rattle.sq_node_model.proofs.Lists.{at_map}
use Rattle.sq_node_model.proofs.Ends.{HasEnds, ends, cut_notes_are}
use Rattle.sq_node_model.proofs.Statuses.{begun}

-- the chunk is the one at this place of those that were cut for the link at this place
pub record IsCutAt (o : OpeningValue) (began : BeganWith) (nodes : List NodeValue) (g : GatheredValue) (chunk : ChunkValue) : Type 0 where
  pub place : ℕ
  pub link : GatheredLink
  pub there : slice_get g.links place ≡ Some link
  pub ends : HasEnds o began nodes link
  pub number : ℕ
  pub at : slice_get (cut_to ends.from link.dst) number ≡ Some chunk

module _ (o : OpeningValue) (began : BeganWith) (nodes : List NodeValue) (g : GatheredValue) (place : ℕ) (link : GatheredLink) (there : slice_get g.links place ≡ Some link)
    (e : HasEnds o began nodes link) (number : ℕ) (chunk : ChunkValue) where
  abbrev pub cut_chunk : slice_get (cut_to e.from link.dst) number ≡ Some chunk → IsCutAt o began nodes g chunk
  cut_chunk at = record { place = place; link = link; there = there; ends = e; number = number; at = at }

  -- those that were loaded come first
  abbrev pub loaded_chunk : slice_get (loaded_from e.to link.src) number ≡ Some chunk → IsCutAt o began nodes g chunk
  loaded_chunk at = cut_chunk (subst (λ list. slice_get list number ≡ Some chunk) (sym e.cut) (slice_get-front (loaded_from e.to link.src) link.under_way number chunk at))

abbrev is_between : ℕ → ℕ → GatheredLink → Bool
is_between src dst link = (link.src == src) && (link.dst == dst)

-- the link from the one partition to the other
pub record IsBetween (g : GatheredValue) (src dst : ℕ) : Type 0 where
  pub place : ℕ
  pub link : GatheredLink
  pub there : slice_get g.links place ≡ Some link
  pub from : link.src ≡ src
  pub to : link.dst ≡ dst

module _ (o : OpeningValue) (began : BeganWith) (is : IsOpening o) (nodes : List NodeValue) (g : GatheredValue) (gathers : Gathers o began nodes g) where
  found_between : (src dst : ℕ) (place : Option ℕ) → position (is_between src dst) g.links ≡ place → is_some place ≡ true → IsBetween g src dst
  found_between src dst None found some = absurd (true≢false (sym some))
  found_between src dst (Some i) found some =
      let none : GatheredLink = record { src = 0; dst = 0; notes = []; under_way = [] } in
      let here = position-Some (is_between src dst) g.links i none found in
      let link = get_or g.links i none in
      let parts = and_parts (link.src == src) (link.dst == dst) here.1 in
      record {
        place = i;
        link = link;
        there = slice_get-get_or g.links i none here.0;
        from = eqb-true link.src src parts.0;
        to = eqb-true link.dst dst parts.1;
      }

  -- there is a link for a segment that goes from the one partition to the other
  pub between : (src dst seg : ℕ) → is_on_link_in o began.stage src dst seg ≡ true → IsBetween g src dst
  between src dst seg on =
      let goes = on_link_goes o began.stage src dst seg on in
      let some : is_link o.recon.ranges src dst ≡ true = subst₂ (λ s d. is_link o.recon.ranges s d ≡ true) goes.source goes.destination (linked o is seg goes.segment goes.there) in
      let link : is_link_in o g.stage src dst ≡ true = ap (λ i. is_link_in o i src dst) gathers.stage ∙ and_from (is_link o.recon.ranges src dst) (runs_in o began.stage src dst) some (link_runs o began.stage src dst seg on) in
      found_between src dst (position (is_between src dst) g.links) refl (gathers.each_link.ends src dst ∙ link)

  -- what a node cut is a chunk of a link from its partition
  pub cut_at : (q : ℕ) (node : NodeValue) (chunk : ChunkValue) → slice_get nodes q ≡ Some node → HasCut node chunk → (c : IsCutAt o began nodes g chunk) × (c.link.src ≡ q)
  cut_at q node chunk at has =
      let b = between node.part has.0 chunk.note.seg (own_note o is node (gathers.holds q node at) chunk has).segment in
      let e = ends o began nodes g gathers b.place b.link b.there in
      let from : b.link.src ≡ q = b.from ∙ gathers.parts q node at in
      let same : node ≡ e.from = same_Some node e.from (sym at ∙ subst (λ p. slice_get nodes p ≡ Some e.from) from e.from_there) in
      let among : Contains (cut_to e.from b.link.dst) chunk = subst₂ (λ (n : NodeValue) d. Contains (cut_to n d) chunk) same (sym b.to) has.1 in
      (cut_chunk o began nodes g b.place b.link b.there e among.0 chunk (slice_get-Contains (cut_to e.from b.link.dst) chunk among), from)

  -- what a node loaded is a chunk of a link to its partition
  pub loaded_at : (q : ℕ) (node : NodeValue) (chunk : ChunkValue) → slice_get nodes q ≡ Some node → HasLoaded node chunk
      → (c : IsCutAt o began nodes g chunk) × (c.link.dst ≡ q) × (c.number < length (loaded_from c.ends.to c.link.src))
  loaded_at q node chunk at has =
      let b = between has.0 node.part chunk.note.seg (((gathers.holds q node at).ins has.0).arrived chunk has.1).segment in
      let e = ends o began nodes g gathers b.place b.link b.there in
      let to : b.link.dst ≡ q = b.to ∙ gathers.parts q node at in
      let same : node ≡ e.to = same_Some node e.to (sym at ∙ subst (λ p. slice_get nodes p ≡ Some e.to) to e.to_there) in
      let among : Contains (loaded_from e.to b.link.src) chunk = subst₂ (λ (n : NodeValue) s. Contains (loaded_from n s) chunk) same (sym b.from) has.1 in
      (loaded_chunk o began nodes g b.place b.link b.there e among.0 chunk (slice_get-Contains (loaded_from e.to b.link.src) chunk among), to, among.1)

  module _ (chunk : ChunkValue) (c : IsCutAt o began nodes g chunk) where
    pub has_cut : HasCut c.ends.from chunk
    has_cut = (c.link.dst, Contains-slice_get (cut_to c.ends.from c.link.dst) c.number chunk c.at)

    -- its note is at its place
    pub noted_at : slice_get c.link.notes c.number ≡ Some chunk.note
    noted_at =
        subst (λ notes. slice_get notes c.number ≡ Some chunk.note) (sym (cut_notes_are o began nodes c.link c.ends))
        (at_map (λ (chunk : ChunkValue). chunk.note) (cut_to c.ends.from c.link.dst) c.number chunk c.at)

    own : IsOwnNote o began.stage c.ends.from.part c.ends.from.begun c.link.dst chunk.note
    unfolding has_cut
    own = own_note o is c.ends.from c.ends.from_holds chunk has_cut

    pub on_link : is_on_link_in o began.stage c.link.src c.link.dst chunk.note.seg ≡ true
    on_link = subst (λ src. is_on_link_in o began.stage src c.link.dst chunk.note.seg ≡ true) c.ends.from_part own.segment

    pub from_is : chunk.note.src ≡ c.link.src
    from_is = own.comes_from ∙ c.ends.from_part

    pub to_is : chunk.note.dst ≡ c.link.dst
    to_is = own.goes_to

    -- it is about a begun tree node
    pub about_node : is_node chunk.note.node ≡ true
    about_node = c.ends.from_holds.begun.nodes chunk.note.seg chunk.note.node own.about

    pub about_begun : is_begun (gathered_status g chunk.note.seg chunk.note.node) ≡ true
    about_begun = begun o began nodes g gathers c.link.src c.ends.from c.link.src c.link.dst chunk.note.seg chunk.note.node c.ends.from_there on_link own.about

    pub within : (root : ℕ) → covers chunk.note root ≡ true → is_within (extent_of o chunk.note.seg chunk.note.node) root ≡ true
    within root covered = own_within o is c.ends.from c.ends.from_holds chunk root has_cut covered

    -- the keys that it covers go along its link
    pub moved : (root : ℕ) → covers chunk.note root ≡ true → IsMovedFrom o began.stage root c.link.src c.link.dst
    moved root covered = moved_from o is began.stage root chunk.note.seg chunk.note.node c.link.src c.link.dst (within root covered) on_link

    pub carried : (root : ℕ) (family : FamilyValue) → IsCarried chunk root family → covers chunk.note root ≡ true
    carried root family has = (cut_carried o is c.ends.from c.ends.from_holds chunk root family has_cut has).1
