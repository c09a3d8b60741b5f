-- The nodes at the ends of a closed link: what was cut for it is what was loaded of it, and then what is under way.
use Rattle.std.proofs.Common.{◌≡◌, ℕ, List, ◌++◌, length, map, take, drop, slice_get, Contains, Some, sym, ap, ◌∙◌, subst, append_assoc, arith}
use Rattle.std.specs.Prelude.{option_to_list}
use Rattle.std.proofs.lemmas.List.{length-append, length-map, map-append, take_at, drop_at}
use Rattle.std.proofs.lemmas.List.Elements.{Contains-append_right}
use Rattle.sq_store.specs.declared.chunk.Note.{Note}
use Rattle.sq_store.specs.ChunkValue.{ChunkValue}
use Rattle.sq_moves.specs.OpeningValue.{OpeningValue}
use Rattle.sq_node_model.specs.BeganWith.{BeganWith}
use Rattle.sq_node_model.specs.NodeValue.{NodeValue}
use Rattle.sq_node_model.specs.Chunks.{cut_to, loaded_from}
use Rattle.sq_node_model.specs.OutHolds.{OutHolds}
use Rattle.sq_node_model.specs.NodeHolds.{NodeHolds}
use Rattle.sq_node_model.specs.Gathered.{GatheredLink, GatheredValue, Gathers}
use Rattle.sq_node_model.specs.Spots.{loaded_count, loads_of}

-- the notes of chunks
abbrev pub notes_of : List ChunkValue → List Note
notes_of chunks = map (λ chunk. chunk.note) chunks

-- the nodes at the ends of a link, and what they did for it
pub record HasEnds (o : OpeningValue) (began : BeganWith) (nodes : List NodeValue) (link : GatheredLink) : Type 0 where
  pub from : NodeValue
  pub from_there : slice_get nodes link.src ≡ Some from
  pub from_part : from.part ≡ link.src
  pub from_holds : NodeHolds o began from
  pub to : NodeValue
  pub to_there : slice_get nodes link.dst ≡ Some to
  pub to_part : to.part ≡ link.dst
  pub to_holds : NodeHolds o began to
  pub notes : link.notes ≡ (from.outs link.dst).notes
  pub cut : cut_to from link.dst ≡ loaded_from to link.src ++ link.under_way

pub ends : (o : OpeningValue) (began : BeganWith) (nodes : List NodeValue) (g : GatheredValue) → Gathers o began nodes g → (i : ℕ) (link : GatheredLink) → slice_get g.links i ≡ Some link → HasEnds o began nodes link
ends o began nodes g gathers i link at =
    let closed = gathers.links i link at in
    let to_holds = gathers.holds link.dst closed.to closed.to_there in
    let loaded = loaded_from closed.to link.src in
    let inbox = option_to_list (closed.to.inboxes link.src) in
    let outbox = option_to_list (closed.from.outs link.dst).outbox in
    let order : closed.from.sent link.dst ≡ (loaded ++ inbox) ++ closed.queue = closed.order ∙ ap (λ received. received ++ closed.queue) (to_holds.ins link.src).order in
    record {
      from = closed.from;
      from_there = closed.from_there;
      from_part = gathers.parts link.src closed.from closed.from_there;
      from_holds = gathers.holds link.src closed.from closed.from_there;
      to = closed.to;
      to_there = closed.to_there;
      to_part = gathers.parts link.dst closed.to closed.to_there;
      to_holds = to_holds;
      notes = closed.notes;
      cut =
          ap (λ sent. sent ++ outbox) order
          ∙ append_assoc (loaded ++ inbox) closed.queue outbox
          ∙ append_assoc loaded inbox (closed.queue ++ outbox)
          ∙ ap (λ way. loaded ++ way) (sym closed.way);
    }

module _ (o : OpeningValue) (began : BeganWith) (nodes : List NodeValue) (link : GatheredLink) (e : HasEnds o began nodes link) where
  abbrev loaded : List ChunkValue
  loaded = loaded_from e.to link.src

  pub out : OutHolds o began e.from.part e.from.begun link.dst (e.from.outs link.dst).notes (e.from.outs link.dst).work (cut_to e.from link.dst)
  out = e.from_holds.outs link.dst

  pub cut_notes_are : link.notes ≡ notes_of (cut_to e.from link.dst)
  cut_notes_are = e.notes ∙ out.noted

  parts_are : link.notes ≡ notes_of loaded ++ notes_of link.under_way
  parts_are = cut_notes_are ∙ ap notes_of e.cut ∙ map-append (λ (c : ChunkValue). c.note) loaded link.under_way

  -- as many were loaded as the link's numbers say
  pub loaded_is : length (notes_of (loaded_from e.to link.src)) ≡ loaded_count link
  loaded_is =
      let all = ap (λ (notes : List Note). length notes) parts_are ∙ length-append (notes_of loaded) (notes_of link.under_way) in
      let way = length-map link.under_way (λ (c : ChunkValue). c.note) in
      omega (arith, all, way)

  pub loads_are : loads_of link ≡ notes_of (loaded_from e.to link.src)
  loads_are =
      ap (take (loaded_count link)) parts_are
      ∙ take_at (notes_of loaded) (notes_of link.under_way) (loaded_count link) loaded_is

  pub way_is : notes_of link.under_way ≡ drop (loaded_count link) link.notes
  way_is =
      sym (ap (drop (loaded_count link)) parts_are
      ∙ drop_at (notes_of loaded) (notes_of link.under_way) (loaded_count link) loaded_is)

  -- what is under way was cut at the source
  pub way_cut : (chunk : ChunkValue) → Contains link.under_way chunk → Contains (cut_to e.from link.dst) chunk
  way_cut chunk has = subst (λ list. Contains list chunk) (sym e.cut) (Contains-append_right loaded link.under_way chunk has)
