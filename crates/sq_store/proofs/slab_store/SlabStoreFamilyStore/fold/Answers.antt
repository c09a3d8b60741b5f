use Rattle.std.proofs.Common.{ap, ◌∙◌}
use Rattle.sq_schema.specs.declared.root.TheConstants.{ROOT_END}
use Rattle.sq_store.specs.StoreValue.{folded_store}
use Rattle.sq_store.specs.Listed.{store_of}
use Rattle.sq_store.proofs.Folds.{store_folded}
use Rattle.sq_store.specs.Runs.{families_in_runs}
use Rattle.sq_store.proofs.InRuns.{runs_rise}
use Rattle.sq_store.proofs.slab_store.SlabStoreFamilyStore.fold.Goals as goal

pub returns : goal.returns
returns c =
    let runs = c.self.inside.runs in
    ap store_of c.fold_runs.ensures.families ∙ store_folded (families_in_runs runs) (runs_rise ROOT_END runs c.self.invariant) ∙ ap folded_store c.self.view_is
