use Rattle.std.proofs.Common.{◌≡◌, subst, sym, ap, ◌∙◌}
use Rattle.sq_store.specs.InOrder.{are_within}
use Rattle.sq_store.specs.Listed.{store_of, IsStart, IsRootGap}
use Rattle.std.specs.List.{insert as put_in}
use Rattle.std.specs.FinMap.{insert as insert_at_key}
use Rattle.sq_store.proofs.Lists.{IsListed, insert_gap}
use Rattle.sq_store.proofs.RunApplies.{start_gap, within_put}
use Rattle.sq_store.proofs.family_run.insert.Goals as goal
use Rattle.sq_store.proofs.family_run.insert.Goals.{In-Ok}

-- the place is the gap for the root key
gap : (c : In-Ok) → IsRootGap c.args.families.now.items c.args.family.root c.start-at.result
gap c =
    let items = c.args.families.now.items in
    let starts : IsStart items c.args.family.root c.start-at.result =
    subst (λ fs. IsStart fs c.args.family.root c.start-at.result) (c.deref.ensures.value ∙ c.reserve.ensures.items)
    (subst (λ n. IsStart c.deref.result.now n c.start-at.result) (c.number.ensures.number ∙ c.root.ensures) c.start-at.ensures) in
    start_gap items c.args.family.root c.start-at.result c.requires.rise starts c.requires.absent

put_is : (c : In-Ok) → c.insert.new.self.items ≡ put_in c.args.families.now.items c.start-at.result c.args.family
put_is c = c.in-Ok.ensures.items ∙ ap (λ fs. put_in fs c.start-at.result c.args.family) c.reserve.ensures.items

listed : (c : In-Ok) → IsListed (insert_at_key (store_of c.args.families.now.items) c.args.family.root c.args.family) (put_in c.args.families.now.items c.start-at.result c.args.family)
listed c = insert_gap c.args.families.now.items c.start-at.result c.args.family c.requires.rise (gap c)

pub returns-clause-ok : goal.returns-clause-ok
returns-clause-ok c =
    let s = (goal.at.returns-clause-ok c).In-Ok in
    ap store_of (put_is s) ∙ sym (listed s).same

pub returns-clause-within : goal.returns-clause-within
returns-clause-within c = λ lo hi within low high.
    let s = (goal.at.returns-clause-within c).In-Ok in
    ap (are_within lo hi) (put_is s) ∙ within_put lo hi c.args.families.now.items within c.start-at.result c.args.family (listed s).rising low high
