use Rattle.std.proofs.Common.{◌≡◌, ◌≤◌, ◌++◌, true, length, take, drop, ap, subst, ◌∙◌, arith}
use Rattle.std.specs.Prelude.{All}
use Rattle.std.proofs.lemmas.Grind.{common_steps}
use Rattle.std.proofs.lemmas.List.{take-append-drop}
use Rattle.std.proofs.lemmas.List.Sorted.{All-permutation, length_permutation}
use Rattle.sq_schema.specs.Family.{FamilyValue}
use Rattle.sq_store.specs.StoreValue.{roots_differ, has_none_of, with_families}
use Rattle.sq_store.specs.Listed.{roots_rise, store_of, IsStart}
use Rattle.sq_store.proofs.Given.{roots_differ-permutation, has_none_of-permutation, with_families-permutation}
use Rattle.sq_store.proofs.Order.{rise_sorted}
use Rattle.sq_store.proofs.Joins.{right_rises}
use Rattle.sq_store.proofs.vec_store.VecStoreFamilyStore.give.Goals as goal
use Rattle.sq_store.proofs.vec_store.VecStoreFamilyStore.give.Goals.{After-into-2}

differs : (c : After-into-2) → roots_differ c.sorted.result.items ≡ true
differs c = roots_differ-permutation c.args.families.items c.sorted.result.items c.sorted.ensures.permutation c.requires.differ

front : (c : After-into-2) → c.split_off.new.self.items ≡ take c.start-at.result c.self.inside.families.items
front c = c.in-Ok.ensures.items ∙ ap (take c.start-at.result) c.reserve.ensures.items

-- the store has been split in two
whole : (c : After-into-2) → store_of (c.split_off.new.self.items ++ c.into.result.items) ≡ c.args.self.now
whole c =
    let items = c.self.inside.families.items in
    let back : c.into.result.items ≡ drop c.start-at.result items = c.into.ensures.0 ∙ c.in-Ok.ensures.tail ∙ ap (drop c.start-at.result) c.reserve.ensures.items in
    (λ i. store_of (front c i ++ back i)) ∙ ap store_of (take-append-drop c.start-at.result items) ∙ c.self.view_is

pub merge-requires-clause-right : goal.merge-requires-clause-right
merge-requires-clause-right c =
    let items = c.self.inside.families.items in
    let given = c.args.families.items in
    let in_order = c.sorted.result.items in
    let bound = c.least_root.result in
    let starts : IsStart items bound c.start-at.result = subst (λ fs. IsStart fs bound c.start-at.result) c.deref.ensures.value c.start-at.ensures in
    let upto : All (λ family. bound ≤ family.root) given = subst (λ fs. All (λ (family : FamilyValue). bound ≤ family.root) fs) c.deref-2.ensures.value c.least_root.ensures in
    (λ i. roots_rise (front c i ++ c.into-2.ensures.0 i))
    ∙ right_rises items in_order bound c.start-at.result c.self.invariant (rise_sorted in_order c.sorted.ensures.sorted (differs c))
    (All-permutation (λ family. bound ≤ family.root) given in_order c.sorted.ensures.permutation upto) starts

pub merge-requires-clause-absent : goal.merge-requires-clause-absent
merge-requires-clause-absent c =
    (λ i. has_none_of (whole c i) (c.into-2.ensures.0 i)) ∙ has_none_of-permutation c.args.self.now c.args.families.items c.sorted.result.items c.sorted.ensures.permutation c.requires.absent

pub returns-clause-ok : goal.returns-clause-ok
returns-clause-ok c =
    let s = (goal.at.returns-clause-ok c).After-into-2 in
    c.merge.ensures.all ∙ (λ i. with_families (whole s i) (c.into-2.ensures.0 i))
    ∙ with_families-permutation c.args.self.now c.args.families.items c.sorted.result.items c.sorted.ensures.permutation c.requires.differ (differs s)

pub merge-requires-clause-room : goal.merge-requires-clause-room
merge-requires-clause-room c =
    let same : length c.sorted.result.items ≡ length c.args.families.items = length_permutation c.args.families.items c.sorted.result.items c.sorted.ensures.permutation in
    let given : length c.into-2.result.items ≡ length c.args.families.items = ap length c.into-2.ensures.0 ∙ same in
    grind (arith, common_steps, given)
