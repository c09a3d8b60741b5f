use Rattle.std.proofs.Common.{[], ◌∷◌, ◌++◌, sym, ap, subst, ◌∙◌, arith}
use Rattle.sq_store.specs.PutIn.{IsPutIn}
use Rattle.sq_store.proofs.PutsIn.{last_absent, put_last}
use Rattle.sq_store.proofs.slab_store.SlabStore.put_in.Goals as goal

pub insert-requires : goal.insert-requires
insert-requires c =
    last_absent c.args.self.now c.args.families.now.items c.requires.differ c.requires.absent c.loop-family.families.items c.pop.new.self.items c.loop-family.roots.items c.loop-family.self
    c.loop-family.invariant.put c.in-Some.family c.in-Some.ensures.items

pub loop-family-preserved : goal.loop-family-preserved
loop-family-preserved c =
    let before = c.args.self.now in
    let given = c.args.families.now.items in
    let left = c.pop.new.self.items in
    let family = c.in-Some.family in
    let roots = c.loop-family.roots.items in
    let so_far = c.loop-family.invariant in
    let put = put_last before given c.requires.differ c.requires.absent c.loop-family.families.items left roots c.loop-family.self so_far.put family c.in-Some.ensures.items in
    let listed = c.push_reserved-in-Some.ensures.items ∙ ap (λ root. roots ++ root ∷ []) c.root-root.ensures in
    record {
      put = subst (λ rs. IsPutIn before given left rs c.insert.new.self) (sym listed)
          (subst (λ store. IsPutIn before given left (roots ++ family.root ∷ []) store) (sym c.in_default-insert.ensures.ok) put);
      capacity = c.in-Some.ensures.capacity ∙ so_far.capacity;
      room = c.push_reserved-in-Some.ensures.capacity ∙ so_far.room;
      count = omega (arith, c.in-Some.ensures.len, c.push_reserved-in-Some.ensures.len, so_far.count);
    }
