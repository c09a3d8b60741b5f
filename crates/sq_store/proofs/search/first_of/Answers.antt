use Rattle.std.proofs.Common.{ap, ◌∙◌, arith}
use Rattle.std.specs.Prelude.{slice_get}
use Rattle.sq_store.proofs.AtRuns.{first_at, none_at, none_behind}
use Rattle.sq_store.proofs.search.first_of.Goals as goal

pub returns-in-Some : goal.returns-in-Some
returns-in-Some c =
    first_at c.args.runs.now c.loop-at.at c.in-Some.family.now (omega (arith, c.loop-at-test.true, c.len-at-end.ensures)) (c.in-Some.ensures.value ∙ ap (λ fs. slice_get fs 0) c.families.ensures)
    ∙ ap (λ fs. slice_get fs 0) c.loop-at.invariant

pub loop-at-preserved : goal.loop-at-preserved
loop-at-preserved c =
    none_at c.args.runs.now c.loop-at.at (omega (arith, c.loop-at-test.true, c.len-at-end.ensures)) (c.in_default.ensures.value ∙ ap (λ fs. slice_get fs 0) c.families.ensures)
    ∙ c.loop-at.invariant

pub returns : goal.returns
returns c =
    none_behind c.args.runs.now c.loop-at.at (omega (arith, c.loop-at-test.false, c.len-at-end.ensures)) ∙ ap (λ fs. slice_get fs 0) c.loop-at.invariant
