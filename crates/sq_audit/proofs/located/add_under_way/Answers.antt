use Rattle.std.proofs.Common.{◌++◌, [], List, sym, ap, ◌∙◌, subst, append_assoc}
use Rattle.std.proofs.lemmas.List.{append-nil}
use Rattle.sq_gather.specs.Prelude.{GatheredLink, Chunk, family_in}
use Rattle.sq_audit.specs.Located.{Entry, entries_in, AddsAll}
use Rattle.sq_audit.proofs.Listing.{item_of, end_of, of_spot, carried_none, carried_next, carried_whole, CarriedTo}
use Rattle.sq_audit.proofs.located.add_under_way.Goals as goal

pub loop-chunk-init : goal.loop-chunk-init
loop-chunk-init c = ([], sym (append-nil (entries_in c.args.all.now.items)), carried_none c.args.link c.args.of.now)

pub loop-chunk-preserved : goal.loop-chunk-preserved
loop-chunk-preserved c =
    let chunk = c.loop-chunk.chunk in
    let here = c.deref-carried-items.ensures.value ∙ ap (λ (l : GatheredLink). l.under_way) c.of.view_is in
    let at = item_of c.deref-carried-items.result.now c.args.of.now.under_way chunk c.carried-item.result here c.carried-item.is c.loop-chunk-test.true in
    let so_far = c.loop-chunk.invariant in
    let adds = subst (λ n. AddsAll (Chunk c.args.link n) (family_in c.carried-item.result.families) (entries_in c.loop-chunk.all.items) (entries_in c.add_carried.new.all.items)) c.in_ok-chunk.ensures c.in_ok-add_carried.ensures in
    let more = of_spot (Chunk c.args.link chunk) adds.families in (
      so_far.0 ++ more,
      adds.added ∙ ap (λ (es : List Entry). es ++ more) so_far.1 ∙ append_assoc (entries_in c.args.all.now.items) so_far.0 more,
      carried_next c.args.link c.args.of.now chunk c.carried-item.result at so_far.0 adds.families so_far.2 adds.all,
    )

pub returns : goal.returns
returns c =
    let here = c.deref-carried-items.ensures.value ∙ ap (λ (l : GatheredLink). l.under_way) c.of.view_is in
    let all = end_of c.deref-carried-items.result.now c.args.of.now.under_way c.loop-chunk.chunk here c.loop-chunk.auto.chunk-end c.loop-chunk-test.false in
    let so_far = c.loop-chunk.invariant in
    carried_whole c.args.link c.args.of.now (entries_in c.args.all.now.items) (entries_in c.loop-chunk.all.items) so_far.0
    (subst (λ k. CarriedTo c.args.link c.args.of.now k so_far.0) all so_far.2) so_far.1
