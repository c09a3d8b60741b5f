use Rattle.std.proofs.Common.{◌≡◌, ◌++◌, true, sym, ap, ◌∙◌}
use Rattle.std.specs.Prelude.{reverse}
use Rattle.std.proofs.lemmas.List.{reverse-reverse}
use Rattle.sq_store.specs.StoreValue.{roots_differ, has_none_of, with_families}
use Rattle.sq_store.proofs.Given.{roots_differ-permutation, has_none_of-permutation, with_families-permutation}
use Rattle.sq_store.proofs.slab_store.SlabStore.give_each.Goals as goal
use Rattle.sq_store.proofs.slab_store.SlabStore.give_each.Goals.{After-reverse}

-- the families the other way round
differ : (c : After-reverse) → roots_differ c.reverse.new.self.items ≡ true
differ c = roots_differ-permutation c.args.families.items c.reverse.new.self.items c.reverse.ensures.permutation c.requires.differ

none : (c : After-reverse) → has_none_of c.args.self.now c.reverse.new.self.items ≡ true
none c = has_none_of-permutation c.args.self.now c.args.families.items c.reverse.new.self.items c.reverse.ensures.permutation c.requires.absent

pub put_in-requires-clause-differ : goal.put_in-requires-clause-differ
put_in-requires-clause-differ c = differ (goal.at.put_in-requires-clause-differ c).After-reverse

pub put_in-requires-clause-absent : goal.put_in-requires-clause-absent
put_in-requires-clause-absent c = none (goal.at.put_in-requires-clause-absent c).After-reverse

pub returns-then-put_in-clause-ok : goal.returns-then-put_in-clause-ok
returns-then-put_in-clause-ok c =
    let put = c.put_in.ensures.put in
    let given = c.reverse.new.self.items in
    let all : given ≡ put.put = put.whole ∙ ap (λ left. left ++ put.put) (c.put_in.ensures.all c.if-put_in.true) in
    put.store ∙ ap (with_families c.args.self.now) (sym all)
    ∙ with_families-permutation c.args.self.now c.args.families.items given c.reverse.ensures.permutation c.requires.differ (differ (goal.at.returns-then-put_in-clause-ok c).After-reverse)

pub returns-else-put_in-clause-families_returned : goal.returns-else-put_in-clause-families_returned
returns-else-put_in-clause-families_returned c =
    let s = (goal.at.returns-else-put_in-clause-families_returned c).After-reverse in
    let back = c.take_back.ensures c.args.self.now c.reverse.new.self.items (differ s) (none s) c.put_in.ensures.put in
    c.reverse-else-put_in.ensures.items ∙ ap reverse (back.1 ∙ c.reverse.ensures.items) ∙ reverse-reverse c.args.families.items

pub returns-else-put_in-clause-err : goal.returns-else-put_in-clause-err
returns-else-put_in-clause-err c =
    let s = (goal.at.returns-else-put_in-clause-err c).After-reverse in
    (c.take_back.ensures c.args.self.now c.reverse.new.self.items (differ s) (none s) c.put_in.ensures.put).0
