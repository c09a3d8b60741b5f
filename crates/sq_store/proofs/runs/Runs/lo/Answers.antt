use Rattle.std.proofs.Common.{ap, ◌∙◌}
use Rattle.sq_store.specs.Runs.{nth_run}
use Rattle.sq_store.proofs.Indexes.{lo_under, inside_index}
use Rattle.sq_store.proofs.runs.Runs.lo.Goals as goal

pub returns : goal.returns
returns c =
    let slab = c.self.inside.slab in
    let index = c.self.inside.index.items in
    lo_under slab index c.args.at c.index.result.now (inside_index slab index c.args.self.now c.self.view_is c.args.at c.requires) c.index.ensures
    ∙ ap (λ rs. (nth_run rs c.args.at).lo) c.self.view_is
