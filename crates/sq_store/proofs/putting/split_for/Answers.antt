use Rattle.std.proofs.Common.{◌≡◌, length, sym, ap, subst, ◌∙◌, arith}
use Rattle.std.specs.Prelude.{◌<◌, ◌-◌, All, slice_get, Some}
use Rattle.sq_schema.specs.Family.{FamilyValue}
use Rattle.sq_store.proofs.Order.{less_from_cmp}
use Rattle.sq_store.specs.Run.{Run, empty_run}
use Rattle.sq_store.proofs.RunSpans.{read_run, run_rises, inside_run}
use Rattle.sq_store.proofs.MadeRuns.{last_below}
use Rattle.sq_store.proofs.putting.split_for.Goals as goal

pub families-requires : goal.families-requires
families-requires c = inside_run c.args.runs.now c.args.root c.args.at c.requires.runs c.requires.place

-- the last family of the run is below the root key
pub start_behind-requires-clause-below : goal.start_behind-requires-clause-below
start_behind-requires-clause-below c =
    let runs = c.args.runs.now in
    let is = c.requires.place in
    let items = is.run.families in
    let own = read_run runs c.args.root c.args.at c.requires.runs is empty_run in
    let read : c.families.result.now ≡ items = c.families.ensures ∙ ap (λ (r : Run). r.families) own in
    let last : Some c.in-Some.last.now ≡ slice_get items (length items - 1) = c.in-Some.ensures.value ∙ ap (λ fs. slice_get fs (length fs - 1)) read in
    let less = less_from_cmp c.root.result c.args.root (sym c.if-lt.ensures) in
    let below = last_below items c.args.root c.in-Some.last.now (run_rises runs c.args.root c.args.at c.requires.runs is) last (omega (arith, less, c.root.ensures)) in
    subst (λ (r : Run). All (λ (family : FamilyValue). family.root < c.args.root) r.families) (sym own) below
