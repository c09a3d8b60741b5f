-- What is gathered of all nodes is placed.
use Rattle.std.proofs.Common.{◌≡◌, ℕ, true, ◌&&◌, List, length, reverse, slice_get, Contains, Some, sym, ap, ◌∙◌, subst}
use Rattle.std.proofs.lemmas.List.{length-map}
use Rattle.std.proofs.lemmas.Bool.{and_from}
use Rattle.sq_moves.specs.Status.{is_complete}
use Rattle.sq_store.specs.StoreValue.{StoreValue}
use Rattle.sq_moves.specs.OpeningValue.{OpeningValue}
use Rattle.sq_moves.specs.Opening.{IsOpening}
use Rattle.sq_model.specs.Links.{is_about, has_last}
use Rattle.sq_model.specs.Orderly.{AreNumbered}
use Rattle.sq_model.proofs.Lists.{list_any-Contains}
use Rattle.sq_node_model.specs.Stages.{is_on_link_in}
use Rattle.sq_node_model.specs.BeganWith.{BeganWith, CanBegin}
use Rattle.sq_node_model.specs.NodeValue.{NodeValue}
use Rattle.sq_node_model.specs.Gathered.{GatheredLink, GatheredValue, Gathers}
use Rattle.sq_node_model.specs.Spots.{gathered_status, loaded_notes}
use Rattle.sq_node_model.specs.Placed.{IsLinkPlaced, FitTogether, IsPlaced}
use Rattle.sq_node_model.proofs.Ends.{ends, out, way_is, way_cut}
use Rattle.sq_node_model.proofs.Statuses.{grown, begun, completed}
use Rattle.sq_node_model.proofs.Cuts.{loaded_at}
use Rattle.sq_node_model.proofs.Once.{apart, link_tiles}
use Rattle.sq_node_model.proofs.Places.{loaded_among, placed, once}
use Rattle.sq_node_model.proofs.Families.{keyed, base, opening}
use Rattle.sq_node_model.proofs.Receipts.{named, told}
use Rattle.sq_node_model.proofs.Aborted.{aborted}

module _ (o : OpeningValue) (began : BeganWith) (is : IsOpening o) (nodes : List NodeValue) (g : GatheredValue) (gathers : Gathers o began nodes g) where
  link_placed : (i : ℕ) (link : GatheredLink) → slice_get g.links i ≡ Some link → IsLinkPlaced o g link
  link_placed i link there =
      let e = ends o began nodes g gathers i link there in
      let holds = out o began nodes link e in
      record {
        way = way_is o began nodes link e;
        numbered = subst (λ notes. AreNumbered (reverse notes)) (sym e.notes) holds.numbered;
        about = λ note has.
            let own = holds.own note (subst (λ notes. Contains notes note) e.notes has) in
            let on : is_on_link_in o began.stage link.src link.dst note.seg ≡ true = subst (λ src. is_on_link_in o began.stage src link.dst note.seg ≡ true) e.from_part own.segment in
            record {
              comes_from = own.comes_from ∙ e.from_part;
              goes_to = own.goes_to;
              segment = ap (λ k. is_on_link_in o k link.src link.dst note.seg) gathers.stage ∙ on;
              node = e.from_holds.begun.nodes note.seg note.node own.about;
              begun = begun o began nodes g gathers link.src e.from link.src link.dst note.seg note.node e.from_there on own.about;
            };
        tiles = link_tiles o began is nodes g gathers i link there;
        within = λ chunk has. (holds.chunks chunk (way_cut o began nodes link e chunk has)).rising;
      }

  -- a complete tree node has its last note among the loaded ones
  complete : (seg n : ℕ) → is_complete (gathered_status g seg n) ≡ true → has_last seg n (loaded_notes g) ≡ true
  complete seg n is_it =
      let found = completed o began nodes g gathers seg n is_it in
      let last = found.3 in
      let chunk = last.0 in
      let c = loaded_at o began is nodes g gathers found.0 found.1 chunk found.2 last.1 in
      list_any-Contains (λ note. is_about seg n note && note.last) (loaded_notes g) chunk.note (loaded_among o began is nodes g gathers chunk c.0 c.2)
      (and_from (is_about seg n chunk.note) chunk.note.last last.2 last.3)

  fit : FitTogether o g
  fit = record {
    parts = record {
      all_stores = ap (λ (stores : List StoreValue). length stores) gathers.stores ∙ length-map nodes (λ (node : NodeValue). node.store) ∙ gathers.count;
      each_link = gathers.each_link;
      all_statuses = gathers.all_statuses;
    };
    links = link_placed;
    apart = apart o began is nodes g gathers;
    grown = grown o began nodes g gathers;
    complete = complete;
    placed = placed o began is nodes g gathers;
    keyed = keyed o began is nodes g gathers;
  }

  pub is_placed : CanBegin o began → IsPlaced o g
  is_placed can = record {
    fit = fit;
    once = once o began is nodes g gathers;
    opening = opening o began is nodes g gathers can;
    base = base o began is nodes g gathers can;
    named = named o began is nodes g gathers can;
    told = told o began is nodes g gathers can;
    aborted = aborted o began is nodes g gathers can;
  }
