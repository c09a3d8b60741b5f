use Rattle.std.proofs.Common.{sym, ap, subst, ◌∙◌}
use Rattle.sq_store.specs.InOrder.{families_in, HoldsByRoot}
use Rattle.sq_store.proofs.Lists.{families_in-store_of, rooted-store_of}
use Rattle.sq_store.proofs.vec_store.VecStore.families.Goals as goal

pub returns-clause-families : goal.returns-clause-families
returns-clause-families c = c.deref.ensures.value ∙ sym (families_in-store_of c.self.inside.families.items c.self.invariant) ∙ ap families_in c.self.view_is

pub returns-clause-rooted : goal.returns-clause-rooted
returns-clause-rooted c = subst HoldsByRoot c.self.view_is (rooted-store_of c.self.inside.families.items c.self.invariant)
