use Rattle.std.proofs.Common.{[], ◌∷◌, ◌++◌, length, refl, sym, ap, subst, ◌∙◌, arith, length-append}
use Rattle.std.specs.Prelude.{option_to_list}
use Rattle.std.specs.FinMap.{get}
use Rattle.sq_store.specs.PutIn.{IsPutIn}
use Rattle.sq_store.proofs.PutsIn.{take_back_last}
use Rattle.sq_store.proofs.OneRoots.{upto_one}
use Rattle.sq_store.proofs.slab_store.SlabStore.take_back.Goals as goal

pub loop-root-preserved : goal.loop-root-preserved
loop-root-preserved c =
    let left = c.loop-root.families.items in
    let store = c.loop-root.self in
    let root = c.in-Some.root in
    let out = c.move_out.ensures in
    record {
      still = λ before given differ none put.
          let back = take_back_last before given differ none left c.loop-root.roots.items c.pop.new.self.items store root c.in-Some.ensures.items (c.loop-root.invariant.still before given differ none put) (get store root) refl in
          let families = ap (λ found. left ++ option_to_list found) (sym back.1) ∙ sym out.taken in
          subst (λ fs. IsPutIn before given fs c.pop.new.self.items c.move_out.new.self) families
          (subst (λ s. IsPutIn before given (left ++ back.0 ∷ []) c.pop.new.self.items s) (sym out.store) back.2);
      room = omega (arith, c.in-Some.ensures.len, ap length out.taken, length-append left (option_to_list (get store root)), upto_one (get store root), out.capacity, c.loop-root.families.ok.0, c.move_out.new.families.ok.0, c.loop-root.invariant.room);
    }
