use Rattle.std.proofs.Common.{◌≡◌, set, ap, ◌∙◌}
use Rattle.std.specs.Vec.{with_item}
use Rattle.slab.specs.Slab.{with_value}
use Rattle.slab.proofs.SlabLemmas.{Updates-with_value}
use Rattle.sq_store.specs.Runs.{nth_run, refilled}
use Rattle.sq_store.proofs.Indexes.{led_at, inside_index, changed_index, changed_view, viewed_families}
use Rattle.sq_store.proofs.runs.Runs.put.Goals as goal

pub index_mut-requires : goal.index_mut-requires
index_mut-requires c =
    let slab = c.self.inside.slab in
    let index = c.self.inside.index.items in
    led_at slab index c.args.run c.index.result.now c.self.invariant (inside_index slab index c.args.self.now c.self.view_is c.args.run c.requires.run) c.index.ensures

pub invariant_of-self : goal.invariant_of-self
invariant_of-self c =
    let slab = c.self.inside.slab in
    let index = c.self.inside.index.items in
    let entry = c.index.result.now in
    let after = with_item c.index_mut.result.now c.args.at c.args.family in
    let inside = inside_index slab index c.args.self.now c.self.view_is c.args.run c.requires.run in
    changed_index slab (with_value slab entry.key after) entry after (Updates-with_value slab entry.key after (led_at slab index c.args.run entry c.self.invariant inside c.index.ensures))
    index c.args.run c.self.invariant inside c.index.ensures

pub returns : goal.returns
returns c =
    let slab = c.self.inside.slab in
    let index = c.self.inside.index.items in
    let runs = c.args.self.now in
    let entry = c.index.result.now in
    let after = with_item c.index_mut.result.now c.args.at c.args.family in
    let inside = inside_index slab index runs c.self.view_is c.args.run c.requires.run in
    let own : c.index_mut.result.now.items ≡ (nth_run runs c.args.run).families = viewed_families slab index runs c.self.view_is c.args.run entry c.index_mut.result.now inside c.index.ensures c.index_mut.ensures.value in
    changed_view slab index runs c.self.view_is (with_value slab entry.key after) c.args.run entry after
    (Updates-with_value slab entry.key after (led_at slab index c.args.run entry c.self.invariant inside c.index.ensures)) c.self.invariant inside c.index.ensures
    ∙ ap (λ fs. set runs c.args.run (refilled runs c.args.run (set fs c.args.at c.args.family))) own
