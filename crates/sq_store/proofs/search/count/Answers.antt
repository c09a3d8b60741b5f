use Rattle.std.proofs.Common.{length, ap, ◌∙◌, arith}
use Rattle.std.specs.Prelude.{◌<◌}
use Rattle.sq_store.specs.Runs.{nth_run}
use Rattle.sq_store.proofs.AtRuns.{counted_upto, counted_next, counted_all}
use Rattle.sq_store.proofs.Swaps.{nth_of}
use Rattle.sq_store.proofs.search.count.Goals as goal

pub overflow_add-count : goal.overflow_add-count
overflow_add-count c =
    let runs = c.args.runs.now in
    let at = c.loop-at.at in
    let inside : at < length runs = omega (arith, c.loop-at-test.true, c.len-at-end.ensures) in
    omega (arith, c.loop-at.invariant, counted_upto runs at (nth_run runs at) inside (nth_of runs at inside), ap length c.families.ensures, c.requires)

pub loop-at-preserved : goal.loop-at-preserved
loop-at-preserved c =
    let runs = c.args.runs.now in
    let at = c.loop-at.at in
    let inside : at < length runs = omega (arith, c.loop-at-test.true, c.len-at-end.ensures) in
    omega (arith, c.loop-at.invariant, counted_next runs at inside, ap length c.families.ensures)

pub returns : goal.returns
returns c = c.loop-at.invariant ∙ counted_all c.args.runs.now c.loop-at.at (omega (arith, c.loop-at-test.false, c.len-at-end.ensures))
