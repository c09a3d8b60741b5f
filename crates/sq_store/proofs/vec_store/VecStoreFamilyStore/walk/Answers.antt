use Rattle.std.proofs.Common.{sym, ap, subst, ◌∙◌}
use Rattle.std.specs.Prelude.{slice_get}
use Rattle.sq_store.specs.InOrder.{family_from, HoldsByRoot}
use Rattle.sq_store.specs.Listed.{IsStart}
use Rattle.sq_store.proofs.Lists.{rooted-store_of}
use Rattle.sq_store.proofs.Places.{copied_at, family_from-store_of}
use Rattle.sq_store.proofs.vec_store.VecStoreFamilyStore.walk.Goals as goal

pub returns-clause-family : goal.returns-clause-family
returns-clause-family c =
    let items = c.self.inside.families.items in
    let at = c.start.result in
    let starts : IsStart items c.args.at at = subst (λ fs. IsStart fs c.args.at at) c.deref-2.ensures.value c.start.ensures in
    copied_at c.deref.result.now at c.get.result c.get.ensures.lookup
    ∙ ap (λ fs. slice_get fs at) c.deref.ensures.value
    ∙ sym (family_from-store_of items c.args.at at c.self.invariant starts)
    ∙ ap (λ store. family_from store c.args.at) c.self.view_is

pub returns-clause-rooted : goal.returns-clause-rooted
returns-clause-rooted c = subst HoldsByRoot c.self.view_is (rooted-store_of c.self.inside.families.items c.self.invariant)
