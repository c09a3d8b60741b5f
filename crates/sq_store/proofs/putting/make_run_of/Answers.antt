use Rattle.std.proofs.Common.{◌≡◌, [], ◌∷◌, refl, sym, ap, subst, ◌∙◌, arith}
use Rattle.std.specs.Prelude.{◌<◌}
use Rattle.std.specs.List.{insert as put_in}
use Rattle.std.proofs.lemmas.Bool.Decides.{nat_tests}
use Rattle.std.proofs.lemmas.List.{nil_from_length}
use Rattle.sq_schema.specs.declared.root.TheConstants.{ROOT_END}
use Rattle.sq_store.specs.Run.{Run}
use Rattle.sq_store.specs.Runs.{first_bound, KeepsFamilies, IsRunOf, nth_run, with_lo}
use Rattle.sq_store.proofs.MadeRuns.{first_place, lowered_place, lowered_keeps}
use Rattle.sq_store.proofs.Swaps.{nth_of}
use Rattle.sq_store.proofs.putting.make_run_of.Goals as goal

pub returns-in_ok-start_run-clause-place : goal.returns-in_ok-start_run-clause-place
returns-in_ok-start_run-clause-place c =
    let run : Run = record { lo = c.args.root; families = [] } in
    let runs = c.args.runs.now in
    let empty : runs ≡ [] = nil_from_length runs (omega (arith, c.len.ensures, c.if-len-eq0.true)) in
    let low = subst (λ rs. c.args.root < first_bound ROOT_END rs) empty c.in_default.ensures.none in
    first_place c.start_run.new.runs c.args.root run (c.in_ok-start_run.ensures.ok ∙ ap (λ rs. put_in rs 0 run) empty) refl low

pub returns-in_ok-start_run-clause-kept : goal.returns-in_ok-start_run-clause-kept
returns-in_ok-start_run-clause-kept c =
    let run : Run = record { lo = c.args.root; families = [] } in
    let runs = c.args.runs.now in
    let empty : runs ≡ [] = nil_from_length runs (omega (arith, c.len.ensures, c.if-len-eq0.true)) in
    let low = subst (λ rs. c.args.root < first_bound ROOT_END rs) empty c.in_default.ensures.none in
    let is : c.start_run.new.runs ≡ run ∷ [] = c.in_ok-start_run.ensures.ok ∙ ap (λ rs. put_in rs 0 run) empty in
    subst (λ rs. KeepsFamilies rs c.start_run.new.runs) (sym empty) (subst (λ rs. KeepsFamilies [] rs) (sym is) (record { runs = (omega (arith, low), refl, tt); families = refl }))

pub set_lo-requires : goal.set_lo-requires
set_lo-requires c = grind (arith, nat_tests)

pub returns-else-len-eq0-clause-place : goal.returns-else-len-eq0-clause-place
returns-else-len-eq0-clause-place c =
    let runs = c.args.runs.now in
    subst (λ rs. IsRunOf rs c.args.root 0) (sym c.set_lo.ensures)
    (lowered_place runs c.args.root (with_lo runs 0 c.args.root) c.requires c.in_default.ensures.none (grind (arith, nat_tests)) refl)

pub returns-else-len-eq0-clause-kept : goal.returns-else-len-eq0-clause-kept
returns-else-len-eq0-clause-kept c =
    let runs = c.args.runs.now in
    subst (KeepsFamilies runs) (sym c.set_lo.ensures)
    (lowered_keeps runs c.args.root (nth_run runs 0) (with_lo runs 0 c.args.root) c.requires c.in_default.ensures.none (grind (arith, nat_tests)) (nth_of runs 0 (grind (arith, nat_tests))) refl refl)
