use Rattle.std.proofs.Common.{sym, ap, ◌∙◌, arith}
use Rattle.std.specs.FinMap.{len}
use Rattle.sq_schema.specs.declared.root.TheConstants.{ROOT_END}
use Rattle.sq_store.proofs.Lists.{len-store_of}
use Rattle.sq_store.specs.Runs.{families_in_runs}
use Rattle.sq_store.proofs.InRuns.{runs_rise, runs_length}
use Rattle.sq_store.proofs.slab_store.SlabStore.len.Goals as goal

pub count-requires : goal.count-requires
count-requires c =
    let few = runs_length ROOT_END c.self.inside.runs c.self.invariant in
    omega (arith, few)

pub returns : goal.returns
returns c =
    let runs = c.self.inside.runs in
    c.count.ensures
    ∙ sym (len-store_of (families_in_runs runs) (runs_rise ROOT_END runs c.self.invariant))
    ∙ ap len c.self.view_is
