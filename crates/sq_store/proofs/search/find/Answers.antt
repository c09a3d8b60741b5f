use Rattle.std.proofs.Common.{◌≡◌, ap, subst, ◌∙◌}
use Rattle.sq_store.specs.Listed.{roots_rise, IsRootAt, IsRootGap}
use Rattle.sq_store.proofs.Lists.{get_gap}
use Rattle.sq_store.specs.Run.{Run, empty_run}
use Rattle.sq_store.specs.Runs.{IsRunOf}
use Rattle.sq_store.proofs.RunSpans.{get_in_run, get_below_all, run_rises, read_run, inside_run}
use Rattle.sq_store.proofs.search.find.Goals as goal
use Rattle.sq_store.proofs.search.find.Goals.{After-families}

-- the root key belongs to the run
of : (c : After-families) → IsRunOf c.args.runs.now c.args.root c.in_ok-run.run'
of c = c.in_ok-run.ensures.some

-- whose families these are
items : (c : After-families) → c.families.result.now ≡ (of c).run.families
items c = c.families.ensures ∙ ap (λ (run : Run). run.families) (read_run c.args.runs.now c.args.root c.in_ok-run.run' c.requires (of c) empty_run)

pub families-requires : goal.families-requires
families-requires c = inside_run c.args.runs.now c.args.root c.in_ok-run.run' c.requires c.in_ok-run.ensures.some

pub returns-in_err-run-clause-none : goal.returns-in_err-run-clause-none
returns-in_err-run-clause-none c = rw c.from_residual.ensures (get_below_all c.args.runs.now c.args.root c.requires c.in_err-run.ensures.none)

pub place-requires : goal.place-requires
place-requires c =
    let s = (goal.at.place-requires c).After-families in
    ap roots_rise (items s) ∙ run_rises c.args.runs.now c.args.root c.in_ok-run.run' c.requires (of s)

pub returns-in-Ok-clause-some : goal.returns-in-Ok-clause-some
returns-in-Ok-clause-some c =
    let s = (goal.at.returns-in-Ok-clause-some c).After-families in
    record { of = of s; here = subst (λ fs. IsRootAt fs c.args.root c.in-Ok.at) (items s) c.in-Ok.ensures }

pub returns-in-Err-clause-none : goal.returns-in-Err-clause-none
returns-in-Err-clause-none c =
    let s = (goal.at.returns-in-Err-clause-none c).After-families in
    let is = of s in
    let at = c.in_ok-run.run' in
    let gap : IsRootGap is.run.families c.args.root c.in-Err.field-0 = subst (λ fs. IsRootGap fs c.args.root c.in-Err.field-0) (items s) c.in-Err.ensures in
    get_in_run c.args.runs.now c.args.root at c.requires is ∙ get_gap is.run.families c.args.root c.in-Err.field-0 (run_rises c.args.runs.now c.args.root at c.requires is) gap
