use Rattle.std.proofs.Common.{◌≡◌, true, length, set, sym, ap, subst, ◌∙◌}
use Rattle.std.specs.Prelude.{◌<◌}
use Rattle.std.specs.FinMap.{get, insert}
use Rattle.sq_schema.specs.declared.root.TheConstants.{ROOT_END}
use Rattle.sq_store.specs.InOrder.{are_within}
use Rattle.sq_store.specs.Listed.{roots_rise, store_of}
use Rattle.sq_store.specs.Run.{Run, empty_run}
use Rattle.sq_store.specs.Runs.{families_in_runs, store_of_runs, first_bound, AreRuns, nth_run, refilled}
use Rattle.sq_store.proofs.RunSpans.{read_run, run_rises, run_facts, get_in_run, inside_run}
use Rattle.sq_store.proofs.SetRuns.{set_are, set_alike, set_inserted, on_ok, on_err}
use Rattle.sq_store.proofs.Swaps.{swapped, still_inside}
use Rattle.sq_store.proofs.putting.insert_at.Goals as goal
use Rattle.sq_store.proofs.putting.insert_at.Goals.{After-swap, After-swap-2}

-- the run that the root key belongs to
read : (c : After-swap) → nth_run c.args.runs.now c.args.at ≡ c.requires.place.run
read c = read_run c.args.runs.now c.args.family.root c.args.at c.requires.runs c.requires.place empty_run

items : (c : After-swap) → c.swap.new.families.items ≡ c.requires.place.run.families
items c = c.swap.ensures.families ∙ ap (λ (run : Run). run.families) (read c)

inside : (c : After-swap) → c.args.at < length c.args.runs.now
inside c = inside_run c.args.runs.now c.args.family.root c.args.at c.requires.runs c.requires.place

pub swap-requires : goal.swap-requires
swap-requires c = inside_run c.args.runs.now c.args.family.root c.args.at c.requires.runs c.requires.place

pub insert-put-requires-clause-rise : goal.insert-put-requires-clause-rise
insert-put-requires-clause-rise c =
    ap roots_rise (items (goal.at.insert-put-requires-clause-rise c).After-swap) ∙ run_rises c.args.runs.now c.args.family.root c.args.at c.requires.runs c.requires.place

pub insert-put-requires-clause-absent : goal.insert-put-requires-clause-absent
insert-put-requires-clause-absent c =
    let root = c.args.family.root in
    ap (λ fs. get (store_of fs) root) (items (goal.at.insert-put-requires-clause-absent c).After-swap)
    ∙ sym (get_in_run c.args.runs.now root c.args.at c.requires.runs c.requires.place)
    ∙ c.requires.absent

pub swap-requires-2 : goal.swap-requires-2
swap-requires-2 c =
    let s = (goal.at.swap-requires-2 c).After-swap in
    still_inside c.args.runs.now c.swap.new.self c.args.at c.new-families.result.items (inside s) c.swap.ensures.runs

-- the run with the families that it has then
after : (c : After-swap-2) → c.args.at < length c.args.runs.now → c.swap-2.new.self ≡ set c.args.runs.now c.args.at (refilled c.args.runs.now c.args.at c.insert-put.new.families.items)
after c within = swapped c.args.runs.now c.swap.new.self c.swap-2.new.self c.args.at c.new-families.result.items c.insert-put.new.families.items within c.swap.ensures.runs c.swap-2.ensures.runs

own : (c : After-swap-2) → c.swap.new.families.items ≡ c.requires.place.run.families → are_within c.requires.place.run.lo (first_bound ROOT_END c.requires.place.back) c.insert-put.new.families.items ≡ true
own c same =
    let is = c.requires.place in
    let hi = first_bound ROOT_END is.back in
    let stands = run_facts c.args.runs.now c.args.family.root c.args.at c.requires.runs is in
    c.insert-put.ensures.within is.run.lo hi (ap (are_within is.run.lo hi) same ∙ stands.own) is.low is.high

pub returns-clause-ok : goal.returns-clause-ok
returns-clause-ok c =
    let s = (goal.at.returns-clause-ok c).After-swap in
    let t = (goal.at.returns-clause-ok c).After-swap-2 in
    let root = c.args.family.root in
    let other = refilled c.args.runs.now c.args.at c.insert-put.new.families.items in
    on_ok c.insert-put.result
    (λ (put : store_of c.insert-put.new.families.items ≡ insert (store_of c.swap.new.families.items) root c.args.family).
    ap store_of_runs (after t (inside s))
    ∙ set_inserted c.args.runs.now root c.args.at c.requires.runs c.requires.place other (ap (λ (run : Run). run.lo) (read s)) (own t (items s)) c.args.family (put ∙ ap (λ fs. insert (store_of fs) root c.args.family) (items s)))
    c.insert-put.ensures.ok

pub returns-clause-runs : goal.returns-clause-runs
returns-clause-runs c =
    let s = (goal.at.returns-clause-runs c).After-swap in
    let t = (goal.at.returns-clause-runs c).After-swap-2 in
    let other = refilled c.args.runs.now c.args.at c.insert-put.new.families.items in
    subst (AreRuns ROOT_END) (sym (after t (inside s)))
    (set_are c.args.runs.now c.args.family.root c.args.at c.requires.runs c.requires.place other (ap (λ (run : Run). run.lo) (read s)) (own t (items s)))

pub returns-clause-err : goal.returns-clause-err
returns-clause-err c =
    let s = (goal.at.returns-clause-err c).After-swap in
    let t = (goal.at.returns-clause-err c).After-swap-2 in
    let other = refilled c.args.runs.now c.args.at c.insert-put.new.families.items in
    on_err c.insert-put.result
    (λ (alike : c.insert-put.new.families.items ≡ c.swap.new.families.items).
    ap families_in_runs (after t (inside s))
    ∙ set_alike c.args.runs.now c.args.family.root c.args.at c.requires.runs c.requires.place other (ap (λ (run : Run). run.lo) (read s)) (own t (items s)) (alike ∙ items s))
    c.insert-put.ensures.err
