use Rattle.std.proofs.Common.{sym, ap, subst, ◌∙◌}
use Rattle.sq_schema.specs.declared.root.TheConstants.{ROOT_END}
use Rattle.sq_store.specs.InOrder.{families_in, HoldsByRoot}
use Rattle.sq_store.proofs.Lists.{families_in-store_of, rooted-store_of}
use Rattle.sq_store.specs.Runs.{families_in_runs}
use Rattle.sq_store.proofs.InRuns.{runs_rise}
use Rattle.sq_store.proofs.slab_store.SlabStore.families.Goals as goal

pub returns-clause-families : goal.returns-clause-families
returns-clause-families c =
    let runs = c.self.inside.runs in
    c.new.ensures
    ∙ sym (families_in-store_of (families_in_runs runs) (runs_rise ROOT_END runs c.self.invariant))
    ∙ ap families_in c.self.view_is

pub returns-clause-rooted : goal.returns-clause-rooted
returns-clause-rooted c =
    let runs = c.self.inside.runs in
    subst HoldsByRoot c.self.view_is (rooted-store_of (families_in_runs runs) (runs_rise ROOT_END runs c.self.invariant))
