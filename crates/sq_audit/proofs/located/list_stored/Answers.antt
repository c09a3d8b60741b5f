use Rattle.std.proofs.Common.{List, sym, ap, ◌∙◌, subst}
use Rattle.std.specs.FinMap.{get}
use Rattle.sq_gather.specs.Prelude.{GatheredValue, Store}
use Rattle.sq_audit.specs.declared.located.Located.{Located}
use Rattle.sq_audit.specs.Located.{entries_in, AddsAll}
use Rattle.sq_audit.proofs.Listing.{item_of, StoredTo, stored_none, stored_next, stored_all}
use Rattle.sq_audit.proofs.located.list_stored.Goals as goal

pub returns : goal.returns
returns c =
    stored_all c.args.g.now (entries_in c.loop-part.all.items) c.deref-store-items.result.now c.loop-part.part
    (c.deref-store-items.ensures.value ∙ ap (λ (g : GatheredValue). g.stores) c.g.view_is) c.loop-part.auto.part-end c.loop-part-test.false c.loop-part.invariant

pub loop-part-init : goal.loop-part-init
loop-part-init c = subst (λ (all : List Located). StoredTo c.args.g.now 0 (entries_in all)) (sym c.in_ok-all.ensures.items) (stored_none c.args.g.now)

pub loop-part-preserved : goal.loop-part-preserved
loop-part-preserved c =
    let here = c.deref-store-items.ensures.value ∙ ap (λ (g : GatheredValue). g.stores) c.g.view_is in
    let at = item_of c.deref-store-items.result.now c.args.g.now.stores c.loop-part.part c.store-item.result here c.store-item.is c.loop-part-test.true in
    let adds = subst (λ n. AddsAll (Store n) (get c.store-item.result) (entries_in c.loop-part.all.items) (entries_in c.add_stored.new.all.items)) c.in_ok-part.ensures c.in_ok-add_stored.ensures in
    stored_next c.args.g.now c.loop-part.part c.store-item.result _ _ at c.loop-part.invariant adds
