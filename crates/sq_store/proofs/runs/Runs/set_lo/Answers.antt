use Rattle.std.proofs.Common.{set, refl, ap, ◌∙◌}
use Rattle.sq_store.specs.Runs.{with_lo}
use Rattle.sq_store.proofs.Indexes.{lo_runs, lo_index, inside_index}
use Rattle.sq_store.proofs.runs.Runs.set_lo.Goals as goal

pub invariant_of-self : goal.invariant_of-self
invariant_of-self c =
    let slab = c.self.inside.slab in
    let index = c.self.inside.index.items in
    let entry = c.index_mut.result.now in
    lo_index slab index c.args.at entry (record { lo = c.args.lo; key = entry.key }) c.self.invariant (inside_index slab index c.args.self.now c.self.view_is c.args.at c.requires) c.index_mut.ensures.value refl

pub returns : goal.returns
returns c =
    let slab = c.self.inside.slab in
    let index = c.self.inside.index.items in
    let entry = c.index_mut.result.now in
    lo_runs slab index c.args.at c.args.lo entry (record { lo = c.args.lo; key = entry.key }) (inside_index slab index c.args.self.now c.self.view_is c.args.at c.requires) c.index_mut.ensures.value refl refl
    ∙ ap (λ rs. set rs c.args.at (with_lo rs c.args.at c.args.lo)) c.self.view_is
