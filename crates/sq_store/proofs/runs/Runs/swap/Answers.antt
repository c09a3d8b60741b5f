use Rattle.std.proofs.Common.{set, ap, ◌∙◌}
use Rattle.slab.specs.Slab.{with_value}
use Rattle.slab.proofs.SlabLemmas.{Updates-with_value}
use Rattle.sq_store.specs.Runs.{refilled}
use Rattle.sq_store.proofs.Indexes.{led_at, inside_index, changed_index, changed_view}
use Rattle.sq_store.proofs.runs.Runs.swap.Goals as goal

pub index_mut-requires : goal.index_mut-requires
index_mut-requires c =
    let slab = c.self.inside.slab in
    let index = c.self.inside.index.items in
    led_at slab index c.args.at c.index.result.now c.self.invariant (inside_index slab index c.args.self.now c.self.view_is c.args.at c.requires) c.index.ensures

pub invariant_of-self : goal.invariant_of-self
invariant_of-self c =
    let slab = c.self.inside.slab in
    let index = c.self.inside.index.items in
    let entry = c.index.result.now in
    let inside = inside_index slab index c.args.self.now c.self.view_is c.args.at c.requires in
    changed_index slab (with_value slab entry.key c.swap.new.x) entry c.swap.new.x (Updates-with_value slab entry.key c.swap.new.x (led_at slab index c.args.at entry c.self.invariant inside c.index.ensures))
    index c.args.at c.self.invariant inside c.index.ensures

pub returns-clause-runs : goal.returns-clause-runs
returns-clause-runs c =
    let slab = c.self.inside.slab in
    let index = c.self.inside.index.items in
    let entry = c.index.result.now in
    let inside = inside_index slab index c.args.self.now c.self.view_is c.args.at c.requires in
    changed_view slab index c.args.self.now c.self.view_is (with_value slab entry.key c.swap.new.x) c.args.at entry c.swap.new.x
    (Updates-with_value slab entry.key c.swap.new.x (led_at slab index c.args.at entry c.self.invariant inside c.index.ensures)) c.self.invariant inside c.index.ensures
    ∙ ap (λ fs. set c.args.self.now c.args.at (refilled c.args.self.now c.args.at fs.items)) c.swap.ensures.x_after
