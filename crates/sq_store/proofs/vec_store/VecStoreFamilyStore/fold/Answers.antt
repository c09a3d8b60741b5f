use Rattle.std.proofs.Common.{ap, ◌∙◌}
use Rattle.sq_store.specs.StoreValue.{folded_store}
use Rattle.sq_store.specs.Listed.{roots_rise, store_of}
use Rattle.sq_store.proofs.Folds.{rise_folded, store_folded}
use Rattle.sq_store.proofs.vec_store.VecStoreFamilyStore.fold.Goals as goal

pub invariant_of-self : goal.invariant_of-self
invariant_of-self c = ap roots_rise c.fold_all.ensures ∙ rise_folded c.self.inside.families.items c.self.invariant

pub returns : goal.returns
returns c = ap store_of c.fold_all.ensures ∙ store_folded c.self.inside.families.items c.self.invariant ∙ ap folded_store c.self.view_is
