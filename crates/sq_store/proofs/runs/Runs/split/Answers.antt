use Rattle.std.proofs.Common.{◌≡◌, ◌+◌, length, get_or, set, take, drop, refl, ap, ◌∙◌, arith}
use Rattle.std.specs.Prelude.{◌<◌, Some}
use Rattle.std.specs.List.{insert as put_in}
use Rattle.slab.specs.Slab.{Updates, with_value}
use Rattle.slab.proofs.SlabLemmas.{Updates-with_value}
use Rattle.sq_store.specs.Run.{Run}
use Rattle.sq_store.specs.Indexed.{runs_of, IsIndex}
use Rattle.sq_store.specs.Runs.{nth_run, refilled}
use Rattle.sq_store.proofs.Indexes.{led_at, inside_index, changed_index, changed_view, viewed_families, roomy_view, roomy_index}
use Rattle.sq_store.proofs.MadeRuns.{is_split}
use Rattle.sq_store.proofs.SetRuns.{for_err}
use Rattle.sq_store.proofs.Swaps.{nth_of, set_own}
use Rattle.sq_store.proofs.runs.Runs.split.Goals as goal
use Rattle.sq_store.proofs.runs.Runs.split.Goals.{After-make_room, After-index_mut, After-cut_off}

-- the runs are the same with more room
view : (c : After-make_room) → runs_of c.make_room.new.slab c.make_room.new.index.items ≡ c.args.self.now
view c = roomy_view c.self.inside.slab c.make_room.new.slab c.self.inside.index.items c.make_room.new.index.items c.args.self.now c.make_room.ensures.slots c.make_room.ensures.entries c.self.view_is

linked : (c : After-make_room) → IsIndex c.make_room.new.slab c.make_room.new.index.items
linked c = roomy_index c.self.inside.slab c.make_room.new.slab c.self.inside.index.items c.make_room.new.index.items c.args.self.now c.make_room.ensures.slots c.make_room.ensures.entries c.self.invariant

inside : (c : After-make_room) → c.args.at < length c.make_room.new.index.items
inside c = inside_index c.make_room.new.slab c.make_room.new.index.items c.args.self.now (view c) c.args.at c.requires.at

-- the families of the run
items : (c : After-index_mut) → runs_of c.make_room.new.slab c.make_room.new.index.items ≡ c.args.self.now → c.args.at < length c.make_room.new.index.items → c.index_mut.result.now.items ≡ (nth_run c.args.self.now c.args.at).families
items c is within = viewed_families c.make_room.new.slab c.make_room.new.index.items c.args.self.now is c.args.at c.index.result.now c.index_mut.result.now within c.index.ensures c.index_mut.ensures.value

pub index_mut-requires : goal.index_mut-requires
index_mut-requires c =
    let s = (goal.at.index_mut-requires c).After-make_room in
    led_at c.make_room.new.slab c.make_room.new.index.items c.args.at c.index.result.now (linked s) (inside s) c.index.ensures

pub cut_off-requires : goal.cut_off-requires
cut_off-requires c =
    let s = (goal.at.cut_off-requires c).After-make_room in
    let own = items (goal.at.cut_off-requires c).After-index_mut (view s) (inside s) in
    omega (arith, c.requires.place, ap length own, c.index_mut.result.now.ok.0)

-- the slab with what is left of the run
written : (c : After-cut_off) → IsIndex c.make_room.new.slab c.make_room.new.index.items → c.args.at < length c.make_room.new.index.items
    → Updates c.make_room.new.slab (with_value c.make_room.new.slab c.index.result.now.key c.cut_off.new.families) c.index.result.now.key (Some c.cut_off.new.families)
written c is within = Updates-with_value c.make_room.new.slab c.index.result.now.key c.cut_off.new.families (led_at c.make_room.new.slab c.make_room.new.index.items c.args.at c.index.result.now is within c.index.ensures)

rest_linked : (c : After-cut_off) → IsIndex c.make_room.new.slab c.make_room.new.index.items → c.args.at < length c.make_room.new.index.items
    → IsIndex (with_value c.make_room.new.slab c.index.result.now.key c.cut_off.new.families) c.make_room.new.index.items
rest_linked c is within =
    let slab = c.make_room.new.slab in
    let entry = c.index.result.now in
    changed_index slab (with_value slab entry.key c.cut_off.new.families) entry c.cut_off.new.families (written c is within) c.make_room.new.index.items c.args.at is within c.index.ensures

rest_view : (c : After-cut_off) → IsIndex c.make_room.new.slab c.make_room.new.index.items → runs_of c.make_room.new.slab c.make_room.new.index.items ≡ c.args.self.now → c.args.at < length c.make_room.new.index.items
    → runs_of (with_value c.make_room.new.slab c.index.result.now.key c.cut_off.new.families) c.make_room.new.index.items ≡ set c.args.self.now c.args.at (refilled c.args.self.now c.args.at c.cut_off.new.families.items)
rest_view c linked is within =
    let slab = c.make_room.new.slab in
    let entry = c.index.result.now in
    changed_view slab c.make_room.new.index.items c.args.self.now is (with_value slab entry.key c.cut_off.new.families) c.args.at entry c.cut_off.new.families (written c linked within) linked within c.index.ensures

pub invariant_of-self : goal.invariant_of-self
invariant_of-self c = linked (goal.at.invariant_of-self c).After-make_room

pub invariant_of-self-in_err-lo : goal.invariant_of-self-in_err-lo
invariant_of-self-in_err-lo c =
    let s = (goal.at.invariant_of-self-in_err-lo c).After-make_room in
    rest_linked (goal.at.invariant_of-self-in_err-lo c).After-cut_off (linked s) (inside s)

pub returns-in_err-lo-clause-err : goal.returns-in_err-lo-clause-err
returns-in_err-lo-clause-err c =
    let s = (goal.at.returns-in_err-lo-clause-err c).After-make_room in
    let own = items (goal.at.returns-in_err-lo-clause-err c).After-index_mut (view s) (inside s) in
    for_err c.from_residual-in_err-lo.result
    (rest_view (goal.at.returns-in_err-lo-clause-err c).After-cut_off (linked s) (view s) (inside s)
    ∙ ap (λ fs. set c.args.self.now c.args.at (refilled c.args.self.now c.args.at fs)) (c.in_err-lo.ensures.err ∙ own)
    ∙ set_own c.args.self.now c.args.at c.requires.at)

pub add-requires-clause-indexed : goal.add-requires-clause-indexed
add-requires-clause-indexed c =
    let s = (goal.at.add-requires-clause-indexed c).After-make_room in
    rest_linked (goal.at.add-requires-clause-indexed c).After-cut_off (linked s) (inside s)

pub returns-clause-ok : goal.returns-clause-ok
returns-clause-ok c =
    let s = (goal.at.returns-clause-ok c).After-make_room in
    let own = items (goal.at.returns-clause-ok c).After-index_mut (view s) (inside s) in
    let runs = c.args.self.now in
    let at = c.args.at in
    let place = c.args.place in
    let one : Run = refilled runs at c.cut_off.new.families.items in
    let two : Run = record { lo = c.in_ok-lo.lo; families = c.in_ok-lo.back.items } in
    is_split runs (runs_of c.add.new.slab c.add.new.index.items) at place (nth_run runs at) one two c.requires.at (nth_of runs at c.requires.at)
    (record {
      lo = refl;
      first = λ d. c.in_ok-lo.ensures.first d ∙ ap (λ fs. (get_or fs place d).root) own;
      kept = c.in_ok-lo.ensures.left ∙ ap (take place) own;
      cut = c.in_ok-lo.ensures.cut ∙ ap (drop place) own;
    })
    (c.add.ensures.runs ∙ ap (λ rs. put_in rs (at + 1) two) (rest_view (goal.at.returns-clause-ok c).After-cut_off (linked s) (view s) (inside s)))
