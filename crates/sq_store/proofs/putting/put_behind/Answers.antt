use Rattle.std.proofs.Common.{◌≡◌, ◌+◌, [], ◌∷◌, ◌++◌, length, set, refl, sym, ap, subst, ◌∙◌, arith, append-nil}
use Rattle.std.specs.List.{insert as put_in}
use Rattle.sq_store.specs.Run.{Run}
use Rattle.sq_store.specs.Runs.{families_in_runs, AreRuns, nth_run, refilled}
use Rattle.sq_store.proofs.InRuns.{families_append}
use Rattle.sq_store.proofs.RunPuts.{put_last_runs, put_last_families, behind_alone, put_at_end}
use Rattle.sq_store.proofs.SetRuns.{on_ok}
use Rattle.sq_store.proofs.Swaps.{nth_of}
use Rattle.sq_store.proofs.putting.put_behind.Goals as goal

-- a run behind all others
pub returns-clause-families : goal.returns-clause-families
returns-clause-families c =
    let run : Run = record { lo = c.root-lo.result; families = c.push_reserved.new.self.items } in
    let items : run.families ≡ c.args.family ∷ [] = c.push_reserved.ensures.items ∙ ap (λ fs. fs ++ c.args.family ∷ []) c.in_ok-families.ensures.items in
    let put : c.insert.new.self ≡ c.args.runs.now ++ run ∷ [] = c.in-Ok.ensures.ok ∙ ap (λ n. put_in c.args.runs.now n run) c.len-2.ensures ∙ put_at_end c.args.runs.now run in
    ap families_in_runs put ∙ families_append c.args.runs.now (run ∷ []) ∙ ap (λ fs. families_in_runs c.args.runs.now ++ fs) (append-nil run.families ∙ items)

pub returns-clause-runs : goal.returns-clause-runs
returns-clause-runs c =
    let run : Run = record { lo = c.root-lo.result; families = c.push_reserved.new.self.items } in
    let items : run.families ≡ c.args.family ∷ [] = c.push_reserved.ensures.items ∙ ap (λ fs. fs ++ c.args.family ∷ []) c.in_ok-families.ensures.items in
    let put : c.insert.new.self ≡ c.args.runs.now ++ run ∷ [] = c.in-Ok.ensures.ok ∙ ap (λ n. put_in c.args.runs.now n run) c.len-2.ensures ∙ put_at_end c.args.runs.now run in
    subst (AreRuns (c.args.family.root + 1)) (sym put) (behind_alone c.args.runs.now run c.args.family c.requires c.root-lo.ensures items)

-- a family in the last run
pub returns-then-families-lt-OPENED_RUN-clause-families : goal.returns-then-families-lt-OPENED_RUN-clause-families
returns-then-families-lt-OPENED_RUN-clause-families c =
    let runs = c.args.runs.now in
    let at = c.in-Some.last in
    let some = c.in-Some.ensures in
    let end : at + 1 ≡ length runs = omega (arith, some, c.len.ensures) in
    let other : Run = refilled runs at ((nth_run runs at).families ++ c.args.family ∷ []) in
    on_ok c.push.result
    (λ (put : c.push.new.self ≡ set runs at other). ap families_in_runs put ∙ put_last_families runs at (nth_run runs at) other c.args.family end (nth_of runs at (omega (arith, end))) refl refl)
    c.push.ensures

pub returns-then-families-lt-OPENED_RUN-clause-runs : goal.returns-then-families-lt-OPENED_RUN-clause-runs
returns-then-families-lt-OPENED_RUN-clause-runs c =
    let runs = c.args.runs.now in
    let at = c.in-Some.last in
    let some = c.in-Some.ensures in
    let end : at + 1 ≡ length runs = omega (arith, some, c.len.ensures) in
    let other : Run = refilled runs at ((nth_run runs at).families ++ c.args.family ∷ []) in
    on_ok c.push.result
    (λ (put : c.push.new.self ≡ set runs at other).
    subst (AreRuns (c.args.family.root + 1)) (sym put) (put_last_runs runs at (nth_run runs at) other c.args.family end (nth_of runs at (omega (arith, end))) refl refl c.requires))
    c.push.ensures
