use Rattle.std.proofs.Common.{◌≡◌, ◌≤◌, ◌++◌, drop, length, subst, sym, ap, ◌∙◌, arith, length-take, length-drop}
use Rattle.std.specs.Prelude.{◌-◌, slice_range}
use Rattle.sq_store.specs.Listed.{IsStart}
use Rattle.sq_store.proofs.Places.{starts_rise}
use Rattle.sq_store.proofs.Spans.{outside}
use Rattle.sq_store.specs.Runs.{between as families_between}
use Rattle.sq_store.proofs.Betweens.{between_slice}
use Rattle.sq_store.proofs.family_run.take_between.Goals as goal
use Rattle.sq_store.proofs.family_run.take_between.Goals.{After-start-last}

low : (c : After-start-last) → IsStart c.args.families.now.items c.args.lo c.start-first.result
low c = subst (λ fs. IsStart fs c.args.lo c.start-first.result) c.deref.ensures.value c.start-first.ensures

high : (c : After-start-last) → IsStart c.args.families.now.items c.args.hi c.start-last.result
high c = subst (λ fs. IsStart fs c.args.hi c.start-last.result) c.deref-2.ensures.value c.start-last.ensures

rise : (c : After-start-last) → c.start-first.result ≤ c.start-last.result
rise c = starts_rise c.args.families.now.items c.args.lo c.args.hi c.start-first.result c.start-last.result c.requires.bounds (low c) (high c)

slice : (c : After-start-last) → slice_range c.args.families.now.items c.start-first.result c.start-last.result ≡ families_between c.args.lo c.args.hi c.args.families.now.items
slice c = between_slice c.args.families.now.items c.args.lo c.args.hi c.start-first.result c.start-last.result c.requires.rise c.requires.bounds (low c) (high c)

-- there is room for them
pub move_range-requires : goal.move_range-requires
move_range-requires c =
    let s = (goal.at.move_range-requires c).After-start-last in
    let items = c.args.families.now.items in
    let first = c.start-first.result in
    let last = c.start-last.result in
    record {
      rise = rise s;
      within = omega (arith, (high s).within, c.args.families.now.ok.0);
      room = omega (arith, ap length (slice s), length-take (last - first) (drop first items), length-drop first items, (high s).within, rise s, c.requires.room);
    }

pub returns-clause-taken : goal.returns-clause-taken
returns-clause-taken c =
    let s = (goal.at.returns-clause-taken c).After-start-last in
    c.move_range.ensures.taken ∙ ap (λ fs. c.args.taken.now.items ++ fs) (slice s)

pub returns-clause-left : goal.returns-clause-left
returns-clause-left c =
    let s = (goal.at.returns-clause-left c).After-start-last in
    c.move_range.ensures.left
    ∙ sym (outside c.args.families.now.items c.args.lo c.args.hi c.start-first.result c.start-last.result c.requires.rise (rise s) (low s) (high s))
