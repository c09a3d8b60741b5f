use Rattle.std.proofs.Common.{◌≡◌, ◌+◌, suc, List, map, ◌++◌, set, get_or, refl, ap, ◌∙◌, arith, append-nil}
use Rattle.std.proofs.lemmas.List.{take_all, drop_all}
use Rattle.sq_schema.specs.Family.{FamilyValue, folded}
use Rattle.sq_store.proofs.Folds.{folded_to, folded_to_next}
use Rattle.sq_store.proofs.vec_store.fold_each.Goals as goal

pub loop-family-init : goal.loop-family-init
loop-family-init c = refl

pub loop-family-preserved : goal.loop-family-preserved
loop-family-preserved c =
    let i = c.loop-family.family-index in
    let before = c.args.families.now in
    let more : suc i ≡ i + 1 = omega arith in
    ap (set c.loop-family.families i) c.fold.ensures
    ∙ ap (λ (fs : List FamilyValue). set fs i (folded (get_or fs i c.family-item.result))) c.loop-family.invariant
    ∙ folded_to_next i before c.family-item.result c.loop-family-test.true
    ∙ ap (λ n. folded_to n before) more

pub returns : goal.returns
returns c =
    let before = c.args.families.now in
    let i = c.loop-family.family-index in
    let past = c.loop-family-test.false in
    c.loop-family.invariant
    ∙ (λ k. map folded (take_all i before past k) ++ drop_all i before past k)
    ∙ append-nil (map folded before)
