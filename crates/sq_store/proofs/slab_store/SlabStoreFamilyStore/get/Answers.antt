use Rattle.std.proofs.Common.{ap, ◌∙◌}
use Rattle.std.specs.Prelude.{get_or}
use Rattle.std.specs.FinMap.{get}
use Rattle.sq_store.specs.Runs.{nth_run}
use Rattle.sq_store.proofs.OneRoots.{rooted-runs, get_at_run}
use Rattle.sq_store.proofs.RunSpans.{inside_run}
use Rattle.sq_store.proofs.Swaps.{nth_of}
use Rattle.sq_store.proofs.slab_store.SlabStoreFamilyStore.get.Goals as goal

pub families-requires : goal.families-requires
families-requires c = inside_run c.self.inside.runs c.args.root c.in_ok-run.run' c.self.invariant c.in_ok-run.ensures.some.of

pub returns-in_err-run-clause-rooted : goal.returns-in_err-run-clause-rooted
returns-in_err-run-clause-rooted c = rooted-runs c.self.inside.runs c.args.self.now c.self.invariant c.self.view_is

pub returns-clause-family : goal.returns-clause-family
returns-clause-family c =
    let runs = c.self.inside.runs in
    let run = c.in_ok-run.run' in
    let at = c.in_ok-run.at in
    let inside = inside_run runs c.args.root run c.self.invariant c.in_ok-run.ensures.some.of in
    get_at_run runs c.args.root run at (nth_run runs run) c.index-families-at.result c.self.invariant c.in_ok-run.ensures.some (nth_of runs run inside)
    (c.index-families-at.is ∙ ap (λ fs. get_or fs at c.index-families-at.result) c.families.ensures)
    ∙ ap (λ store. get store c.args.root) c.self.view_is

pub returns-clause-rooted : goal.returns-clause-rooted
returns-clause-rooted c = rooted-runs c.self.inside.runs c.args.self.now c.self.invariant c.self.view_is
