use Rattle.std.proofs.Common.{◌≡◌, [], ◌∷◌, ◌++◌, set, ap, ◌∙◌}
use Rattle.slab.specs.Slab.{with_value}
use Rattle.slab.proofs.SlabLemmas.{Updates-with_value}
use Rattle.sq_store.specs.Runs.{nth_run, refilled}
use Rattle.sq_store.proofs.Indexes.{led_at, inside_index, changed_index, changed_view, viewed_families}
use Rattle.sq_store.proofs.runs.Runs.push.Goals as goal
use Rattle.sq_store.proofs.runs.Runs.push.Goals.{in-Ok, in-Err}

pub index_mut-requires : goal.index_mut-requires
index_mut-requires c =
    let slab = c.self.inside.slab in
    let index = c.self.inside.index.items in
    led_at slab index c.args.at c.index.result.now c.self.invariant (inside_index slab index c.args.self.now c.self.view_is c.args.at c.requires) c.index.ensures

pub invariant_of-self : goal.invariant_of-self
invariant_of-self c =
    let slab = c.self.inside.slab in
    let index = c.self.inside.index.items in
    let entry = c.index.result.now in
    let inside = inside_index slab index c.args.self.now c.self.view_is c.args.at c.requires in
    changed_index slab (with_value slab entry.key c.push-pushed.new.self) entry c.push-pushed.new.self (Updates-with_value slab entry.key c.push-pushed.new.self (led_at slab index c.args.at entry c.self.invariant inside c.index.ensures))
    index c.args.at c.self.invariant inside c.index.ensures

pub returns : goal.returns
returns c =
    let slab = c.self.inside.slab in
    let index = c.self.inside.index.items in
    let runs = c.args.self.now in
    let entry = c.index.result.now in
    let inside = inside_index slab index runs c.self.view_is c.args.at c.requires in
    let own : c.index_mut.result.now.items ≡ (nth_run runs c.args.at).families = viewed_families slab index runs c.self.view_is c.args.at entry c.index_mut.result.now inside c.index.ensures c.index_mut.ensures.value in
    let changed = changed_view slab index runs c.self.view_is (with_value slab entry.key c.push-pushed.new.self) c.args.at entry c.push-pushed.new.self
    (Updates-with_value slab entry.key c.push-pushed.new.self (led_at slab index c.args.at entry c.self.invariant inside c.index.ensures)) c.self.invariant inside c.index.ensures in
    elim c.match-pushed.branch [
      | in-Ok w ↦ rw w.result-is (changed ∙ ap (λ fs. set runs c.args.at (refilled runs c.args.at fs)) (w.in-Ok.ensures.items ∙ ap (λ fs. fs ++ c.args.family ∷ []) own))
      | in-Err w ↦ rw w.result-is tt
    ]
