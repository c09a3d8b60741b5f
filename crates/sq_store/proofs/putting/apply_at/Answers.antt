use Rattle.std.proofs.Common.{◌≡◌, true, length, sym, ap, subst, refl, ◌∙◌}
use Rattle.std.specs.Prelude.{◌≤◌, ◌↔◌, IsErrOf, IfOk, OnErr, unwrap_or}
use Rattle.std.specs.FinMap.{get}
use Rattle.sq_schema.specs.declared.root.TheConstants.{ROOT_END}
use Rattle.sq_schema.specs.declared.fault.ApplyFault.TheVariants.{LogFull}
use Rattle.sq_schema.specs.declared.family.TheConstants.{MAX_LOG}
use Rattle.sq_schema.specs.Effect.{reply}
use Rattle.sq_schema.specs.Family.{rows_of}
use Rattle.sq_store.specs.InOrder.{are_within}
use Rattle.sq_store.specs.Listed.{roots_rise, store_of, IsRootAt}
use Rattle.sq_store.specs.StoreValue.{absent, store_after}
use Rattle.sq_store.specs.Run.{Run, empty_run}
use Rattle.sq_store.specs.Runs.{families_in_runs, store_of_runs, first_bound, AreRuns, nth_run, refilled}
use Rattle.sq_store.proofs.RunSpans.{get_in_run, read_run, run_facts, run_rises, inside_run}
use Rattle.sq_store.proofs.SetRuns.{set_are, set_applied, set_refused}
use Rattle.sq_store.proofs.putting.apply_at.Goals as goal
use Rattle.sq_store.proofs.putting.apply_at.Goals.{After-apply}

-- the run of the root key
read : (c : After-apply) → nth_run c.args.runs.now c.args.run ≡ c.requires.place.of.run
read c = read_run c.args.runs.now c.args.txn.now.root c.args.run c.requires.runs c.requires.place.of empty_run

pub apply-requires-clause-rise : goal.apply-requires-clause-rise
apply-requires-clause-rise c =
    let of = c.requires.place.of in
    ap (λ (run : Run). roots_rise run.families) (read_run c.args.runs.now c.args.txn.now.root c.args.run c.requires.runs of empty_run) ∙ run_rises c.args.runs.now c.args.txn.now.root c.args.run c.requires.runs of

pub apply-requires-clause-run : goal.apply-requires-clause-run
apply-requires-clause-run c = inside_run c.args.runs.now c.args.txn.now.root c.args.run c.requires.runs c.requires.place.of

pub apply-requires-clause-here : goal.apply-requires-clause-here
apply-requires-clause-here c =
    let of = c.requires.place.of in
    subst (λ (run : Run). IsRootAt run.families c.args.txn.now.root c.args.at) (sym (read_run c.args.runs.now c.args.txn.now.root c.args.run c.requires.runs of empty_run)) c.requires.place.here

-- what is found of the root key
found : (c : After-apply) → get (store_of_runs c.args.runs.now) c.args.txn.now.root ≡ get (store_of (nth_run c.args.runs.now c.args.run).families) c.args.txn.now.root
found c =
    let root = c.args.txn.now.root in
    get_in_run c.args.runs.now root c.args.run c.requires.runs c.requires.place.of ∙ ap (λ (run : Run). get (store_of run.families) root) (sym (read c))

within : (c : After-apply) → are_within c.requires.place.of.run.lo (first_bound ROOT_END c.requires.place.of.back) c.apply.ensures.applied.after ≡ true
within c =
    let of = c.requires.place.of in
    let hi = first_bound ROOT_END of.back in
    let own = (run_facts c.args.runs.now c.args.txn.now.root c.args.run c.requires.runs of).own in
    c.apply.ensures.applied.within of.run.lo hi (ap (λ (run : Run). are_within of.run.lo hi run.families) (read c) ∙ own)

pub returns-clause-full : goal.returns-clause-full
returns-clause-full c =
    let root = c.args.txn.now.root in
    subst (λ o. IsErrOf c.apply.result LogFull ↔ (MAX_LOG ≤ length (unwrap_or o (absent root)).log)) (sym (found (goal.at.returns-clause-full c).After-apply)) c.apply.ensures.full

pub returns-clause-reply : goal.returns-clause-reply
returns-clause-reply c =
    let root = c.args.txn.now.root in
    subst (λ o. IfOk c.apply.result (λ r. r ≡ reply (rows_of (unwrap_or o (absent root))) c.args.txn.now)) (sym (found (goal.at.returns-clause-reply c).After-apply)) c.apply.ensures.applied.reply

pub returns-clause-store : goal.returns-clause-store
returns-clause-store c =
    let s = (goal.at.returns-clause-store c).After-apply in
    let of = c.requires.place.of in
    let runs = c.args.runs.now in
    let txn = c.args.txn.now in
    let applied = c.apply.ensures.applied in
    let other = refilled runs c.args.run applied.after in
    subst (λ rs. IfOk c.apply.result (λ reply. store_of_runs rs ≡ store_after (store_of_runs runs) txn reply)) (sym applied.is)
    (set_applied runs txn.root c.args.run c.requires.runs of other (ap (λ (run : Run). run.lo) (read s)) (within s) txn c.apply.result refl
    (subst (λ (run : Run). IfOk c.apply.result (λ reply. store_of applied.after ≡ store_after (store_of run.families) txn reply)) (read s) applied.families))

pub returns-clause-runs : goal.returns-clause-runs
returns-clause-runs c =
    let s = (goal.at.returns-clause-runs c).After-apply in
    let applied = c.apply.ensures.applied in
    let other = refilled c.args.runs.now c.args.run applied.after in
    subst (AreRuns ROOT_END) (sym applied.is) (set_are c.args.runs.now c.args.txn.now.root c.args.run c.requires.runs c.requires.place.of other (ap (λ (run : Run). run.lo) (read s)) (within s))

pub returns-clause-err : goal.returns-clause-err
returns-clause-err c =
    let s = (goal.at.returns-clause-err c).After-apply in
    let applied = c.apply.ensures.applied in
    let other = refilled c.args.runs.now c.args.run applied.after in
    subst (λ rs. OnErr c.apply.result (families_in_runs rs ≡ families_in_runs c.args.runs.now)) (sym applied.is)
    (set_refused c.args.runs.now c.args.txn.now.root c.args.run c.requires.runs c.requires.place.of other (ap (λ (run : Run). run.lo) (read s)) (within s) c.apply.result
    (subst (λ (run : Run). OnErr c.apply.result (applied.after ≡ run.families)) (read s) applied.err))
