use Rattle.std.proofs.Common.{◌≡◌, length, ap, subst, ◌∙◌, arith}
use Rattle.sq_store.specs.Listed.{roots_rise, IsStart}
use Rattle.sq_store.specs.Run.{Run, empty_run}
use Rattle.sq_store.proofs.InRuns.{split_keeps}
use Rattle.sq_store.proofs.RunSpans.{read_run, run_rises, inside_run}
use Rattle.sq_store.proofs.MadeRuns.{split_items}
use Rattle.sq_store.proofs.Gaps.{gap_of, gap_split}
use Rattle.sq_store.proofs.blocks.split_above.Goals as goal
use Rattle.sq_store.proofs.blocks.split_above.Goals.{After-families-families, After-start-place}

-- the families of the run that the root key belongs to
items : (c : After-families-families) → c.families-families.result.now ≡ c.requires.place.run.families
items c = c.families-families.ensures ∙ ap (λ (run : Run). run.families) (read_run c.args.runs.now c.args.lo c.args.at c.requires.runs c.requires.place empty_run)

start : (c : After-start-place) → c.families-families.result.now ≡ c.requires.place.run.families → IsStart c.requires.place.run.families c.args.lo c.start-place.result
start c same =
    subst (λ fs. IsStart fs c.args.lo c.start-place.result) same (subst (λ n. IsStart c.families-families.result.now n c.start-place.result) c.number.ensures.number c.start-place.ensures)

pub families-families-requires : goal.families-families-requires
families-families-requires c = inside_run c.args.runs.now c.args.lo c.args.at c.requires.runs c.requires.place

pub start-place-requires : goal.start-place-requires
start-place-requires c = ap roots_rise (items (goal.at.start-place-requires c).After-families-families) ∙ run_rises c.args.runs.now c.args.lo c.args.at c.requires.runs c.requires.place

pub split-requires-clause-at : goal.split-requires-clause-at
split-requires-clause-at c = inside_run c.args.runs.now c.args.lo c.args.at c.requires.runs c.requires.place

-- where the run has families from the root key on
pub returns-in_ok-split-clause-gap : goal.returns-in_ok-split-clause-gap
returns-in_ok-split-clause-gap c =
    let own = items (goal.at.returns-in_ok-split-clause-gap c).After-families-families in
    let starts = start (goal.at.returns-in_ok-split-clause-gap c).After-start-place own in
    gap_split c.args.runs.now c.split.new.self c.args.lo c.args.at c.start-place.result c.requires.runs c.requires.place c.in_ok-split.ensures.ok starts
    (omega (arith, c.if-place-families.true, ap length own))

pub returns-in_ok-split-clause-kept : goal.returns-in_ok-split-clause-kept
returns-in_ok-split-clause-kept c =
    let place = c.start-place.result in
    let own = items (goal.at.returns-in_ok-split-clause-kept c).After-families-families in
    let split = c.in_ok-split.ensures.ok in
    let same = ap length (split_items c.args.runs.now c.split.new.self c.args.lo c.args.at place c.requires.place split) in
    split_keeps c.args.runs.now c.split.new.self c.args.at place c.requires.runs split (omega (arith, c.if-place-families.true, ap length own, same))

-- where it has none
pub returns-else-place-families-clause-gap : goal.returns-else-place-families-clause-gap
returns-else-place-families-clause-gap c =
    let own = items (goal.at.returns-else-place-families-clause-gap c).After-families-families in
    let starts = start (goal.at.returns-else-place-families-clause-gap c).After-start-place own in
    gap_of c.args.runs.now c.args.lo c.args.at c.start-place.result c.requires.runs c.requires.place starts (omega (arith, c.if-place-families.false, ap length own))
