use Rattle.std.proofs.Common.{◌≡◌, [], ◌++◌, length, drop, sym, ap, ◌∙◌, arith}
use Rattle.std.specs.Prelude.{◌<◌}
use Rattle.std.proofs.lemmas.Bool.Decides.{nat_tests}
use Rattle.std.proofs.lemmas.List.{nil_from_length}
use Rattle.sq_schema.specs.declared.root.TheConstants.{ROOT_END}
use Rattle.sq_store.specs.Listed.{roots_rise}
use Rattle.sq_store.specs.Runs.{families_in_runs, between, nth_run}
use Rattle.sq_store.proofs.Cutting.{each_rises}
use Rattle.sq_store.proofs.Fitting.{upto_run}
use Rattle.sq_store.proofs.TakenChunks.{none_between}
use Rattle.sq_store.proofs.Swaps.{nth_of}
use Rattle.sq_store.proofs.search.has_none.Goals as goal

pub loop-at-init : goal.loop-at-init
loop-at-init c = c.runs_between-first.ensures.before

pub between-requires-clause-rise : goal.between-requires-clause-rise
between-requires-clause-rise c =
    let runs = c.args.runs.now in
    let at = c.loop-at.at in
    let inside : at < length runs = let s = c.runs_between-first.ensures.within in omega (arith, c.loop-at-test.true, s) in
    ap roots_rise (c.families.ensures ∙ ap (λ run. run.families) (nth_of runs at inside)) ∙ each_rises ROOT_END runs c.requires.runs at (nth_run runs at) inside

pub loop-at-preserved : goal.loop-at-preserved
loop-at-preserved c =
    let runs = c.args.runs.now in
    let at = c.loop-at.at in
    let inside : at < length runs = let s = c.runs_between-first.ensures.within in omega (arith, c.loop-at-test.true, s) in
    let own : between c.args.lo c.args.hi (nth_run runs at).families ≡ [] =
    ap (between c.args.lo c.args.hi) (sym c.families.ensures) ∙ sym c.between.ensures ∙ nil_from_length c.between.result.now (grind (arith, nat_tests)) in
    upto_run c.args.lo c.args.hi runs at (nth_run runs at) inside (nth_of runs at inside) ∙ (λ i. c.loop-at.invariant i ++ own i)

pub returns : goal.returns
returns c = λ true.
    let s = c.runs_between-first.ensures in
    none_between c.args.runs.now c.args.lo c.args.hi c.loop-at.at c.loop-at.invariant
    (ap (λ n. between c.args.lo c.args.hi (families_in_runs (drop n c.args.runs.now))) (omega (arith, c.loop-at-test.false, c.loop-at.auto.at-end s.rise)) ∙ s.after)
