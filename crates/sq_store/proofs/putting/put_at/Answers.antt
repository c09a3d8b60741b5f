use Rattle.std.proofs.Common.{◌≡◌, true, length, set, sym, ap, subst, ◌∙◌, arith}
use Rattle.std.specs.FinMap.{insert}
use Rattle.sq_schema.specs.declared.root.TheConstants.{ROOT_END}
use Rattle.sq_store.specs.InOrder.{are_within}
use Rattle.sq_store.specs.Listed.{store_of}
use Rattle.sq_store.proofs.Lists.{IsListed, insert_at}
use Rattle.sq_store.specs.Run.{Run, empty_run}
use Rattle.sq_store.specs.Runs.{store_of_runs, first_bound, AreRuns, nth_run, refilled}
use Rattle.sq_store.proofs.RunApplies.{within_set}
use Rattle.sq_store.proofs.RunSpans.{read_run, run_rises, run_facts, inside_run}
use Rattle.sq_store.proofs.SetRuns.{set_are, set_inserted}
use Rattle.sq_store.proofs.putting.put_at.Goals as goal
use Rattle.sq_store.proofs.putting.put_at.Goals.{After-put}

pub put-requires-clause-run : goal.put-requires-clause-run
put-requires-clause-run c = inside_run c.args.runs.now c.args.family.root c.args.run c.requires.runs c.requires.place.of

pub put-requires-clause-at : goal.put-requires-clause-at
put-requires-clause-at c =
    let of = c.requires.place.of in
    let same = ap (λ (run : Run). length run.families) (read_run c.args.runs.now c.args.family.root c.args.run c.requires.runs of empty_run) in
    omega (arith, same, c.requires.place.here.within)

-- the run of the root key
read : (c : After-put) → nth_run c.args.runs.now c.args.run ≡ c.requires.place.of.run
read c = read_run c.args.runs.now c.args.family.root c.args.run c.requires.runs c.requires.place.of empty_run

-- the run with the family in the place of the one that it had
is_put : (c : After-put) → IsListed (insert (store_of c.requires.place.of.run.families) c.args.family.root c.args.family) (set c.requires.place.of.run.families c.args.at c.args.family)
is_put c =
    let of = c.requires.place.of in
    insert_at of.run.families c.args.at c.args.family (run_rises c.args.runs.now c.args.family.root c.args.run c.requires.runs of) c.requires.place.here

after : (c : After-put) → c.put.new.self ≡ set c.args.runs.now c.args.run (refilled c.args.runs.now c.args.run (set c.requires.place.of.run.families c.args.at c.args.family))
after c =
    let runs = c.args.runs.now in
    c.put.ensures ∙ ap (λ (run : Run). set runs c.args.run (refilled runs c.args.run (set run.families c.args.at c.args.family))) (read c)

own : (c : After-put) → are_within c.requires.place.of.run.lo (first_bound ROOT_END c.requires.place.of.back) (set c.requires.place.of.run.families c.args.at c.args.family) ≡ true
own c =
    let of = c.requires.place.of in
    let stands = run_facts c.args.runs.now c.args.family.root c.args.run c.requires.runs of in
    within_set of.run.lo (first_bound ROOT_END of.back) of.run.families stands.own c.args.at c.args.family (is_put c).rising of.low of.high

pub returns-clause-store : goal.returns-clause-store
returns-clause-store c =
    let s = (goal.at.returns-clause-store c).After-put in
    let of = c.requires.place.of in
    let other = refilled c.args.runs.now c.args.run (set of.run.families c.args.at c.args.family) in
    ap store_of_runs (after s)
    ∙ set_inserted c.args.runs.now c.args.family.root c.args.run c.requires.runs of other (ap (λ (run : Run). run.lo) (read s)) (own s) c.args.family (sym (is_put s).same)

pub returns-clause-runs : goal.returns-clause-runs
returns-clause-runs c =
    let s = (goal.at.returns-clause-runs c).After-put in
    let of = c.requires.place.of in
    let other = refilled c.args.runs.now c.args.run (set of.run.families c.args.at c.args.family) in
    subst (AreRuns ROOT_END) (sym (after s)) (set_are c.args.runs.now c.args.family.root c.args.run c.requires.runs of other (ap (λ (run : Run). run.lo) (read s)) (own s))
