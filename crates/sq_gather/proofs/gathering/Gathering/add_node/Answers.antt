use Rattle.std.proofs.Common.{◌+◌, ◌++◌, ◌∷◌, [], List, length, map, Option, sym, ap, ◌∙◌, subst, subst₂, length-append, Vec, Global, arith}
use Rattle.std.proofs.lemmas.List.{map-append}
use Rattle.sq_shared.specs.declared.tree.TreeSeat.{TreeSeat}
use Rattle.sq_schema.specs.TxnValue.{TxnValue}
use Rattle.sq_exec.specs.Waiting.{WaitingValue, txns_of}
use Rattle.sq_store.specs.ChunkValue.{ChunkValue}
use Rattle.sq_exec.specs.OutLink.{OutLinkValue, RoomyOutLink}
use Rattle.sq_shared.specs.Seat.{SeatValue}
use Rattle.sq_node.specs.Ends.{EndValue}
use Rattle.sq_gather.specs.LinkEnds.{LinkEndsValue}
use Rattle.sq_gather.specs.Ends.{AreApart, AreAmong, SourcesPut, DestinationsPut, with_source}
use Rattle.sq_gather.specs.GatheringValue.{GatheringValue}
use Rattle.sq_gather.proofs.Putting.{put_as}
use Rattle.sq_gather.proofs.gathering.Gathering.add_node.Goals as goal

pub put_sources-requires-clause-among : goal.put_sources-requires-clause-among
put_sources-requires-clause-among c =
    subst₂ AreAmong (sym (ap (λ (g : GatheringValue). length g.ends) c.self.view_is)) (sym c.into_parts-core.ensures.sends) c.requires.ends.sends

pub put_sources-requires-clause-apart : goal.put_sources-requires-clause-apart
put_sources-requires-clause-apart c = subst AreApart (sym c.into_parts-core.ensures.sends) c.requires.ends.sends_apart

pub put_destinations-requires-clause-among : goal.put_destinations-requires-clause-among
put_destinations-requires-clause-among c =
    subst₂ AreAmong (sym (c.put_sources.ensures.count ∙ ap (λ (g : GatheringValue). length g.ends) c.self.view_is)) (sym c.into_parts-core.ensures.recvs) c.requires.ends.recvs

pub put_destinations-requires-clause-apart : goal.put_destinations-requires-clause-apart
put_destinations-requires-clause-apart c = subst AreApart (sym c.into_parts-core.ensures.recvs) c.requires.ends.recvs_apart

abbrev link_of : RoomyOutLink → OutLinkValue
link_of out = out.link

abbrev waiting_of : WaitingValue → List TxnValue
waiting_of one = txns_of one.arrivals

abbrev seats_of : Vec TreeSeat Global → List SeatValue
seats_of owner = owner.items

pub returns : goal.returns
returns c =
    let was = c.self.view_is in
    let parts = c.into_parts-core.ensures in
    record {
      kept = parts.kept;
      waiting = ap (map waiting_of) c.push_reserved-2.ensures.items ∙ map-append waiting_of c.self.inside.waiting.items (c.into_parts-core.result.core.waiting ∷ []) ∙ (λ k. (was k).waiting ++ parts.waiting k ∷ []);
      posts = ap length c.push_reserved-3.ensures.items ∙ length-append c.self.inside.posts.items (c.into_parts-core.result.posts ∷ []) ∙ ap (λ (g : GatheringValue). g.posts + 1) was;
      stores = c.push_reserved.ensures.items ∙ (λ k. (was k).stores ++ parts.store k ∷ []);
      receipts = c.before-self-inside.ensures ∙ (λ k. (was k).receipts ++ parts.receipts k);
      owners = ap (map seats_of) c.push_reserved-4.ensures.items ∙ map-append seats_of c.self.inside.owners.items (c.into_parts-core.result.seats ∷ []) ∙ (λ k. (was k).owners ++ parts.seats k ∷ []);
      between = c.put_sources.new.ends.items;
      sources = subst₂ (λ (sends : List (Option EndValue)) (outs : List OutLinkValue). SourcesPut sends outs 0 c.args.self.now.ends c.put_sources.new.ends.items) parts.sends parts.outs
          (subst (λ (ends : List LinkEndsValue). SourcesPut c.into_parts-core.result.sends.items (map link_of c.into_parts-core.result.core.outs.items) 0 ends c.put_sources.new.ends.items) (λ k. (was k).ends)
          (put_as {put = with_source} link_of c.put_sources.ensures));
      destinations = subst₂ (λ (recvs : List (Option EndValue)) (inboxes : List (Option ChunkValue)). DestinationsPut recvs inboxes 0 c.put_sources.new.ends.items c.put_destinations.new.ends.items) parts.recvs parts.inboxes c.put_destinations.ensures;
      left = ap (λ (g : GatheringValue). g.left) was;
      room = record {
        stores = omega (arith, ap (λ (g : GatheringValue). g.room.stores) was, c.push_reserved.ensures.capacity);
        waiting = omega (arith, ap (λ (g : GatheringValue). g.room.waiting) was, c.push_reserved-2.ensures.capacity);
        posts = omega (arith, ap (λ (g : GatheringValue). g.room.posts) was, c.push_reserved-3.ensures.capacity);
        owners = omega (arith, ap (λ (g : GatheringValue). g.room.owners) was, c.push_reserved-4.ensures.capacity);
        links = omega (arith, ap (λ (g : GatheringValue). g.room.links) was);
        trees = ap (λ (g : GatheringValue). g.room.trees) was;
      };
    }
