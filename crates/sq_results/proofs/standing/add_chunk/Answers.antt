use Rattle.std.proofs.Common.{◌≤◌, List, ◌++◌, length, ap, ◌∙◌, arith}
use Rattle.std.proofs.lemmas.List.{take_all}
use Rattle.sq_schema.specs.Family.{FamilyValue}
use Rattle.sq_results.specs.RowLines.{lent_values}
use Rattle.sq_results.proofs.standing.add_chunk.Goals as goal

pub returns : goal.returns
returns c =
    let items = c.families-family-items.result.now in
    let test = c.loop-family-test.false in
    let whole : length items ≤ c.loop-family.family-index = omega arith in
    c.loop-family.invariant
    ∙ ap (λ (fs : List FamilyValue). lent_values c.args.families.now.items ++ fs) (take_all c.loop-family.family-index items whole ∙ c.families-family-items.ensures.families)
