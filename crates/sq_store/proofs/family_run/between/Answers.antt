use Rattle.std.proofs.Common.{◌≤◌}
use Rattle.sq_store.specs.Listed.{IsStart}
use Rattle.sq_store.proofs.Places.{starts_rise}
use Rattle.sq_store.proofs.Betweens.{between_slice}
use Rattle.sq_store.proofs.family_run.between.Goals as goal
use Rattle.sq_store.proofs.family_run.between.Goals.{After-start-last}

low : (c : After-start-last) → IsStart c.args.families.now c.args.lo c.start-first.result
low c = c.start-first.ensures

high : (c : After-start-last) → IsStart c.args.families.now c.args.hi c.start-last.result
high c = c.start-last.ensures

rise : (c : After-start-last) → c.start-first.result ≤ c.start-last.result
rise c = starts_rise c.args.families.now c.args.lo c.args.hi c.start-first.result c.start-last.result c.requires.bounds (low c) (high c)

pub slice_bounds-result-count : goal.slice_bounds-result-count
slice_bounds-result-count c = rise (goal.at.slice_bounds-result-count c).After-start-last

pub slice_bounds-result-start : goal.slice_bounds-result-start
slice_bounds-result-start c = rise (goal.at.slice_bounds-result-start c).After-start-last

pub returns : goal.returns
returns c =
    let s = (goal.at.returns c).After-start-last in
    between_slice c.args.families.now c.args.lo c.args.hi c.start-first.result c.start-last.result c.requires.rise c.requires.bounds (low s) (high s)
