use Rattle.std.proofs.Common.{◌∙◌}
use Rattle.sq_store.proofs.Indexes.{led_at, inside_index, viewed_families}
use Rattle.sq_store.proofs.runs.Runs.families.Goals as goal

pub index-requires-2 : goal.index-requires-2
index-requires-2 c =
    let slab = c.self.inside.slab in
    let index = c.self.inside.index.items in
    led_at slab index c.args.at c.index.result.now c.self.invariant (inside_index slab index c.args.self.now c.self.view_is c.args.at c.requires) c.index.ensures

pub returns : goal.returns
returns c =
    let slab = c.self.inside.slab in
    let index = c.self.inside.index.items in
    c.deref.ensures.value
    ∙ viewed_families slab index c.args.self.now c.self.view_is c.args.at c.index.result.now c.index-2.result.now (inside_index slab index c.args.self.now c.self.view_is c.args.at c.requires) c.index.ensures c.index-2.ensures
