use Rattle.std.proofs.Common.{[], refl, sym, ap, subst, ◌∙◌, arith}
use Rattle.std.specs.Prelude.{◌<◌, All}
use Rattle.std.specs.List.{insert as put_in}
use Rattle.sq_schema.specs.Family.{FamilyValue}
use Rattle.sq_store.specs.Run.{Run, empty_run}
use Rattle.sq_store.specs.Runs.{IsRunOf}
use Rattle.sq_store.proofs.RunSpans.{read_run, inside_run}
use Rattle.sq_store.proofs.MadeRuns.{started_place, started_keeps}
use Rattle.sq_store.proofs.putting.start_behind.Goals as goal

pub after-next-requires : goal.after-next-requires
after-next-requires c = inside_run c.args.runs.now c.args.root c.args.at c.requires.runs c.requires.place

pub start_run-requires : goal.start_run-requires
start_run-requires c = let inside = inside_run c.args.runs.now c.args.root c.args.at c.requires.runs c.requires.place in omega (arith, inside, c.after-next.ensures)

pub returns-clause-place : goal.returns-clause-place
returns-clause-place c =
    let runs = c.args.runs.now in
    let two : Run = record { lo = c.args.root; families = [] } in
    let put = c.in_ok-start_run.ensures.ok ∙ ap (λ n. put_in runs n two) c.after-next.ensures in
    subst (λ n. IsRunOf c.start_run.new.runs c.args.root n) (sym c.after-next.ensures)
    (started_place runs c.start_run.new.runs c.args.root c.args.at two c.requires.runs c.requires.place put refl refl)

pub returns-clause-kept : goal.returns-clause-kept
returns-clause-kept c =
    let runs = c.args.runs.now in
    let two : Run = record { lo = c.args.root; families = [] } in
    let put = c.in_ok-start_run.ensures.ok ∙ ap (λ n. put_in runs n two) c.after-next.ensures in
    started_keeps runs c.start_run.new.runs c.args.root c.args.at two c.requires.runs c.requires.place put refl refl
    (subst (λ (r : Run). All (λ (family : FamilyValue). family.root < c.args.root) r.families) (read_run runs c.args.root c.args.at c.requires.runs c.requires.place empty_run) c.requires.below)
