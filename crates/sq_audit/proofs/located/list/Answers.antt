use Rattle.std.proofs.Common.{ap, ◌∙◌, subst}
use Rattle.sq_gather.specs.Prelude.{GatheredValue}
use Rattle.sq_audit.specs.Located.{entries_in, AddsLink}
use Rattle.sq_audit.proofs.Listing.{item_of, linked_none, linked_next, listed_all}
use Rattle.sq_audit.proofs.located.list.Goals as goal

pub returns : goal.returns
returns c =
    listed_all c.args.g.now (entries_in c.loop-at.all.items) c.deref-link-items.result.now c.loop-at.at
    (c.deref-link-items.ensures.value ∙ ap (λ (g : GatheredValue). g.links) c.g.view_is) c.loop-at.auto.at-end c.loop-at-test.false c.loop-at.invariant

pub loop-at-init : goal.loop-at-init
loop-at-init c = linked_none c.args.g.now (entries_in c.in_ok-all.all.items) c.in_ok-all.ensures

pub loop-at-preserved : goal.loop-at-preserved
loop-at-preserved c =
    let here = c.deref-link-items.ensures.value ∙ ap (λ (g : GatheredValue). g.links) c.g.view_is in
    let at = item_of c.deref-link-items.result.now c.args.g.now.links c.loop-at.at c.link-item.result here c.link-item.is c.loop-at-test.true in
    let adds = subst (λ n. AddsLink n c.link-item.result (entries_in c.loop-at.all.items) (entries_in c.add_under_way.new.all.items)) c.in_ok-at.ensures c.in_ok-add_under_way.ensures in
    linked_next c.args.g.now c.loop-at.at c.link-item.result _ _ at c.loop-at.invariant adds
