use Rattle.std.proofs.Common.{◌++◌, length, set, ap, ◌∙◌, arith}
use Rattle.sq_store.specs.Listed.{roots_rise}
use Rattle.sq_store.specs.Runs.{between, outside, refilled}
use Rattle.sq_store.proofs.Swaps.{swapped, still_inside}
use Rattle.sq_store.proofs.taking.take_run.Goals as goal

pub take_between-requires-clause-rise : goal.take_between-requires-clause-rise
take_between-requires-clause-rise c = ap roots_rise c.swap.ensures.families ∙ c.requires.rise

pub take_between-requires-clause-room : goal.take_between-requires-clause-room
take_between-requires-clause-room c = omega (arith, ap (λ fs. length (between c.args.lo c.args.hi fs)) c.swap.ensures.families, c.requires.room)

pub swap-requires-2 : goal.swap-requires-2
swap-requires-2 c = still_inside c.args.runs.now c.swap.new.self c.args.at c.new-families.result.items c.requires.at c.swap.ensures.runs

pub returns-clause-taken : goal.returns-clause-taken
returns-clause-taken c = c.take_between.ensures.taken ∙ ap (λ fs. c.args.taken.now.items ++ between c.args.lo c.args.hi fs) c.swap.ensures.families

pub returns-clause-left : goal.returns-clause-left
returns-clause-left c =
    swapped c.args.runs.now c.swap.new.self c.swap-2.new.self c.args.at c.new-families.result.items c.take_between.new.families.items c.requires.at c.swap.ensures.runs c.swap-2.ensures.runs
    ∙ ap (λ fs. set c.args.runs.now c.args.at (refilled c.args.runs.now c.args.at fs)) (c.take_between.ensures.left ∙ ap (outside c.args.lo c.args.hi) c.swap.ensures.families)
