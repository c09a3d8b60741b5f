use Rattle.std.proofs.Common.{◌+◌, length, refl, sym, subst, arith}
use Rattle.std.specs.Prelude.{◌<◌}
use Rattle.sq_store.specs.Listed.{folded_families}
use Rattle.sq_store.specs.Runs.{nth_run, refilled}
use Rattle.sq_store.proofs.FoldedRuns.{IsFoldedTo, folded_next}
use Rattle.sq_store.proofs.Swaps.{nth_of}
use Rattle.sq_store.proofs.putting.fold_each_run.Goals as goal

pub loop-at-preserved : goal.loop-at-preserved
loop-at-preserved c =
    let now = c.loop-at.runs in
    let at = c.loop-at.at in
    let inside : at < length now = omega (arith, c.loop-at-test.true, c.loop-at.invariant.count) in
    let other = refilled now at (folded_families (nth_run now at).families) in
    subst (λ rs. IsFoldedTo c.args.runs.now rs (at + 1)) (sym c.fold_run.ensures)
    (folded_next c.args.runs.now now at (nth_run now at) other c.loop-at.invariant inside (nth_of now at inside) refl refl)
