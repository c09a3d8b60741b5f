use Rattle.std.proofs.Common.{◌≡◌, subst, ◌++◌, List, [], length, get_or, drop, sym, ap, ◌∙◌, arith}
use Rattle.std.specs.Prelude.{◌+◌, ◌<◌, ◌≤◌}
use Rattle.sq_schema.specs.declared.root.TheConstants.{ROOT_END}
use Rattle.sq_schema.specs.Family.{FamilyValue}
use Rattle.sq_store.specs.Counting.{fitting}
use Rattle.sq_store.specs.Listed.{roots_rise}
use Rattle.sq_store.specs.Runs.{families_in_runs, between, nth_run}
use Rattle.sq_store.proofs.InRuns.{runs_length}
use Rattle.sq_store.proofs.Cutting.{each_rises}
use Rattle.sq_store.proofs.Fitting.{few_fit, some_fit, ends_in_run, all_fit, all_counted, found_at, none_at, fit_from, fit_upto, end_upto}
use Rattle.sq_store.proofs.Swaps.{nth_of}
use Rattle.sq_store.proofs.taking.fit.Goals as goal
use Rattle.sq_store.proofs.taking.fit.Goals.{After-between-families, After-loop-at}

inside : (c : After-between-families) → c.loop-at.at < length c.args.runs.now
inside c = let s = c.runs_between-first.ensures.within in omega (arith, c.loop-at-test.true, s)

-- the families of the run that are between the two numbers
own : (c : After-between-families) → c.between-families.result.now ≡ between c.args.lo c.args.hi (nth_run c.args.runs.now c.loop-at.at).families
own c = c.between-families.ensures ∙ ap (between c.args.lo c.args.hi) c.families.ensures

pub loop-at-init : goal.loop-at-init
loop-at-init c =
    let s = c.runs_between-first.ensures in
    record { whole = fit_from c.args.lo c.args.hi c.args.runs.now c.runs_between-first.result.0 c.args.room s.before; counted = sym (ap length s.before) }

pub between-families-requires-clause-rise : goal.between-families-requires-clause-rise
between-families-requires-clause-rise c =
    let runs = c.args.runs.now in
    let at = c.loop-at.at in
    let within : at < length runs = let s = c.runs_between-first.ensures.within in omega (arith, c.loop-at-test.true, s) in
    ap roots_rise (c.families.ensures ∙ ap (λ run. run.families) (nth_of runs at within)) ∙ each_rises ROOT_END runs c.requires.runs at (nth_run runs at) within

pub overflow_add-count : goal.overflow_add-count
overflow_add-count c =
    let s = (goal.at.overflow_add-count c).After-between-families in
    let runs = c.args.runs.now in
    let at = c.loop-at.at in
    let few = few_fit c.args.lo c.args.hi runs at (nth_run runs at) (inside s) (nth_of runs at (inside s)) c.args.room c.loop-at.count c.loop-at.left c.fit_in-fits.result.0
    c.loop-at.invariant.whole c.loop-at.invariant.counted (c.fit_in-fits.ensures.count ∙ ap (fitting c.loop-at.left) (own s)) in
    omega (arith, few, runs_length ROOT_END runs c.requires.runs)

pub returns-in-Some-clause-count : goal.returns-in-Some-clause-count
returns-in-Some-clause-count c =
    let s = (goal.at.returns-in-Some-clause-count c).After-between-families in
    let runs = c.args.runs.now in
    let at = c.loop-at.at in
    let found = found_at c.between-families.result.now c.fit_in-fits.result.0 c.in-Some.family c.in-Some.ensures.lookup in
    some_fit c.args.lo c.args.hi runs at (nth_run runs at) (inside s) (nth_of runs at (inside s)) c.args.room c.loop-at.count c.loop-at.left c.fit_in-fits.result.0
    c.loop-at.invariant.whole c.loop-at.invariant.counted (c.fit_in-fits.ensures.count ∙ ap (fitting c.loop-at.left) (own s))
    (subst (λ fs. c.fit_in-fits.result.0 < length fs) (own s) found.0)

pub returns-in-Some-clause-end : goal.returns-in-Some-clause-end
returns-in-Some-clause-end c =
    let s = (goal.at.returns-in-Some-clause-end c).After-between-families in
    let runs = c.args.runs.now in
    let at = c.loop-at.at in
    let found = found_at c.between-families.result.now c.fit_in-fits.result.0 c.in-Some.family c.in-Some.ensures.lookup in
    c.number.ensures.number ∙ c.root.ensures ∙ ap (λ f. f.root) (found.1 ∙ ap (λ fs. get_or fs c.fit_in-fits.result.0 c.in-Some.family.now) (own s))
    ∙ ends_in_run c.args.lo c.args.hi runs at (nth_run runs at) (inside s) (nth_of runs at (inside s)) c.args.room c.loop-at.count c.loop-at.left c.fit_in-fits.result.0
    c.loop-at.invariant.whole c.loop-at.invariant.counted (c.fit_in-fits.ensures.count ∙ ap (fitting c.loop-at.left) (own s)) c.in-Some.family.now
    (subst (λ fs. c.fit_in-fits.result.0 < length fs) (own s) found.0)

pub loop-at-preserved : goal.loop-at-preserved
loop-at-preserved c =
    let s = (goal.at.loop-at-preserved c).After-between-families in
    let runs = c.args.runs.now in
    let at = c.loop-at.at in
    let fits = c.fit_in-fits.ensures.count ∙ ap (fitting c.loop-at.left) (own s) in
    let all : length (between c.args.lo c.args.hi (nth_run runs at).families) ≤ c.fit_in-fits.result.0 =
    subst (λ fs. length fs ≤ c.fit_in-fits.result.0) (own s) (none_at c.between-families.result.now c.fit_in-fits.result.0 c.in_default.ensures.lookup) in
    record {
      whole =
          all_fit c.args.lo c.args.hi runs at (nth_run runs at) (inside s) (nth_of runs at (inside s)) c.args.room c.loop-at.count c.loop-at.left c.fit_in-fits.result.0
          c.loop-at.invariant.whole c.loop-at.invariant.counted fits c.fit_in-fits.result.1
          (subst (λ (fs : List FamilyValue). (more : List FamilyValue) → c.fit_in-fits.result.0 ≡ length fs → fitting c.loop-at.left (fs ++ more) ≡ c.fit_in-fits.result.0 + fitting c.fit_in-fits.result.1 more) (own s) c.fit_in-fits.ensures.left) all;
      counted =
          all_counted c.args.lo c.args.hi runs at (nth_run runs at) (inside s) (nth_of runs at (inside s)) c.args.room c.loop-at.count c.loop-at.left c.fit_in-fits.result.0
          c.loop-at.invariant.whole c.loop-at.invariant.counted fits all;
    }

none_left : (c : After-loop-at) → between c.args.lo c.args.hi (families_in_runs (drop c.loop-at.at c.args.runs.now)) ≡ []
none_left c =
    let s = c.runs_between-first.ensures in
    let end : c.loop-at.at ≡ c.runs_between-first.result.1 = omega (arith, c.loop-at-test.false, c.loop-at.auto.at-end s.rise) in
    ap (λ n. between c.args.lo c.args.hi (families_in_runs (drop n c.args.runs.now))) end ∙ s.after

pub returns-clause-count : goal.returns-clause-count
returns-clause-count c =
    fit_upto c.args.lo c.args.hi c.args.runs.now c.loop-at.at c.args.room c.loop-at.count c.loop-at.left (none_left (goal.at.returns-clause-count c).After-loop-at) c.loop-at.invariant.whole

pub returns-clause-end : goal.returns-clause-end
returns-clause-end c =
    end_upto c.args.lo c.args.hi c.args.runs.now c.loop-at.at c.args.room c.loop-at.count c.loop-at.left (none_left (goal.at.returns-clause-end c).After-loop-at) c.loop-at.invariant.counted
