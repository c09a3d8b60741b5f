use Rattle.std.proofs.Common.{Some, sym, ap, subst, ◌∙◌}
use Rattle.std.specs.FinMap.{get}
use Rattle.sq_store.specs.InOrder.{HoldsByRoot}
use Rattle.sq_store.specs.Listed.{IsRootAt, IsRootGap}
use Rattle.sq_store.proofs.Lists.{get_at, get_gap, rooted-store_of}
use Rattle.sq_store.proofs.vec_store.VecStoreFamilyStore.get.Goals as goal

pub returns-in-Ok-clause-family : goal.returns-in-Ok-clause-family
returns-in-Ok-clause-family c =
    let items = c.self.inside.families.items in
    let here : IsRootAt items c.args.root c.in-Ok.at = subst (λ fs. IsRootAt fs c.args.root c.in-Ok.at) c.deref.ensures.value c.in-Ok.ensures in
    ap Some c.index.ensures ∙ sym (get_at items c.args.root c.in-Ok.at c.index.result.now c.self.invariant here) ∙ ap (λ store. get store c.args.root) c.self.view_is

pub returns-in-Err-clause-family : goal.returns-in-Err-clause-family
returns-in-Err-clause-family c =
    let items = c.self.inside.families.items in
    let gap : IsRootGap items c.args.root c.in-Err.field-0 = subst (λ fs. IsRootGap fs c.args.root c.in-Err.field-0) c.deref.ensures.value c.in-Err.ensures in
    sym (get_gap items c.args.root c.in-Err.field-0 c.self.invariant gap) ∙ ap (λ store. get store c.args.root) c.self.view_is

pub returns-in-Ok-clause-rooted : goal.returns-in-Ok-clause-rooted
returns-in-Ok-clause-rooted c = subst HoldsByRoot c.self.view_is (rooted-store_of c.self.inside.families.items c.self.invariant)

pub returns-in-Err-clause-rooted : goal.returns-in-Err-clause-rooted
returns-in-Err-clause-rooted c = subst HoldsByRoot c.self.view_is (rooted-store_of c.self.inside.families.items c.self.invariant)
