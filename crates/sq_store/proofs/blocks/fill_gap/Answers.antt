use Rattle.std.proofs.Common.{◌≡◌, [], ◌++◌, length, set, refl, sym, ap, subst, ◌∙◌, arith, length-set}
use Rattle.std.specs.List.{insert as put_in}
use Rattle.std.proofs.lemmas.List.{nil_from_length}
use Rattle.sq_schema.specs.declared.root.TheConstants.{ROOT_END}
use Rattle.sq_store.specs.Run.{Run}
use Rattle.sq_store.specs.Runs.{AreRuns, store_of_runs, nth_run, refilled}
use Rattle.sq_store.proofs.Gaps.{gap_inside, gap_read}
use Rattle.sq_store.proofs.SetRuns.{on_ok, on_either}
use Rattle.sq_store.proofs.GivenBlocks.{joined_runs, joined_store, followed_runs, followed_store}
use Rattle.sq_store.proofs.blocks.fill_gap.Goals as goal

pub families-stand-requires : goal.families-stand-requires
families-stand-requires c = let gap = c.requires.gap in gap_inside c.args.runs.now c.args.lo gap.end c.args.at gap.gap

pub swap-requires : goal.swap-requires
swap-requires c = let gap = c.requires.gap in gap_inside c.args.runs.now c.args.lo gap.end c.args.at gap.gap

pub append_to-requires : goal.append_to-requires
append_to-requires c = let gap = c.requires.gap in gap_inside c.args.runs.now c.args.lo gap.end c.args.at gap.gap

pub after-next-requires : goal.after-next-requires
after-next-requires c = let gap = c.requires.gap in gap_inside c.args.runs.now c.args.lo gap.end c.args.at gap.gap

pub insert-requires : goal.insert-requires
insert-requires c = let gap = c.requires.gap in let inside = gap_inside c.args.runs.now c.args.lo gap.end c.args.at gap.gap in omega (arith, inside, c.after-next.ensures)

-- where the run had no families
pub returns-then-stand-eq0-clause-place : goal.returns-then-stand-eq0-clause-place
returns-then-stand-eq0-clause-place c =
    let gap = c.requires.gap in
    let inside = gap_inside c.args.runs.now c.args.lo gap.end c.args.at gap.gap in
    omega (arith, inside, ap length c.swap.ensures.runs, length-set c.args.runs.now c.args.at (refilled c.args.runs.now c.args.at c.args.families.items))

pub returns-then-stand-eq0-clause-ok : goal.returns-then-stand-eq0-clause-ok
returns-then-stand-eq0-clause-ok c =
    let runs = c.args.runs.now in
    let items = c.args.families.items in
    let gap = c.requires.gap in
    let read = gap_read runs c.args.lo gap.end c.args.at gap.gap in
    let none : gap.gap.run.families ≡ [] = sym (ap (λ (run : Run). run.families) read) ∙ sym c.families-stand.ensures ∙ nil_from_length c.families-stand.result.now (omega (arith, c.if-stand-eq0.true)) in
    ap store_of_runs c.swap.ensures.runs
    ∙ joined_store runs items c.args.lo c.args.at c.requires.runs gap (refilled runs c.args.at items) (ap (λ (run : Run). run.lo) read) (sym (ap (λ fs. fs ++ items) none))

pub returns-then-stand-eq0-clause-runs : goal.returns-then-stand-eq0-clause-runs
returns-then-stand-eq0-clause-runs c =
    let runs = c.args.runs.now in
    let items = c.args.families.items in
    let gap = c.requires.gap in
    let read = gap_read runs c.args.lo gap.end c.args.at gap.gap in
    let none : gap.gap.run.families ≡ [] = sym (ap (λ (run : Run). run.families) read) ∙ sym c.families-stand.ensures ∙ nil_from_length c.families-stand.result.now (omega (arith, c.if-stand-eq0.true)) in
    subst (AreRuns ROOT_END) (sym c.swap.ensures.runs)
    (joined_runs runs items c.args.lo c.args.at c.requires.runs gap (refilled runs c.args.at items) (ap (λ (run : Run). run.lo) read) (sym (ap (λ fs. fs ++ items) none)))

-- where it has room for them
pub returns-then-len-saturating_sub-clause-ok : goal.returns-then-len-saturating_sub-clause-ok
returns-then-len-saturating_sub-clause-ok c =
    let runs = c.args.runs.now in
    let items = c.args.families.items in
    let gap = c.requires.gap in
    let read = gap_read runs c.args.lo gap.end c.args.at gap.gap in
    let other : Run = refilled runs c.args.at ((nth_run runs c.args.at).families ++ items) in
    on_ok c.append_to.result
    (λ (put : c.append_to.new.runs ≡ set runs c.args.at other).
    ap store_of_runs put ∙ joined_store runs items c.args.lo c.args.at c.requires.runs gap other (ap (λ (run : Run). run.lo) read) (ap (λ (run : Run). run.families ++ items) read))
    c.append_to.ensures.ok

pub returns-then-len-saturating_sub-clause-runs : goal.returns-then-len-saturating_sub-clause-runs
returns-then-len-saturating_sub-clause-runs c =
    let runs = c.args.runs.now in
    let items = c.args.families.items in
    let gap = c.requires.gap in
    let read = gap_read runs c.args.lo gap.end c.args.at gap.gap in
    let other : Run = refilled runs c.args.at ((nth_run runs c.args.at).families ++ items) in
    on_either c.append_to.result
    (λ (put : c.append_to.new.runs ≡ set runs c.args.at other).
    subst (AreRuns ROOT_END) (sym put) (joined_runs runs items c.args.lo c.args.at c.requires.runs gap other (ap (λ (run : Run). run.lo) read) (ap (λ (run : Run). run.families ++ items) read)))
    (λ (same : c.append_to.new.runs ≡ runs). subst (AreRuns ROOT_END) (sym same) c.requires.runs)
    c.append_to.ensures.ok
    c.append_to.ensures.err

-- where it has a run behind it then
pub returns-in_ok-insert-clause-ok : goal.returns-in_ok-insert-clause-ok
returns-in_ok-insert-clause-ok c =
    let runs = c.args.runs.now in
    let other : Run = record { lo = c.args.lo; families = c.args.families.items } in
    let put = c.in_ok-insert.ensures.ok ∙ ap (λ n. put_in runs n other) c.after-next.ensures in
    followed_store runs c.args.families.items c.args.lo c.args.at c.requires.runs c.requires.gap other refl refl c.insert.new.self put

pub returns-in_ok-insert-clause-runs : goal.returns-in_ok-insert-clause-runs
returns-in_ok-insert-clause-runs c =
    let runs = c.args.runs.now in
    let other : Run = record { lo = c.args.lo; families = c.args.families.items } in
    let put = c.in_ok-insert.ensures.ok ∙ ap (λ n. put_in runs n other) c.after-next.ensures in
    followed_runs runs c.args.families.items c.args.lo c.args.at c.requires.runs c.requires.gap other refl refl c.insert.new.self put
