use Rattle.std.proofs.Common.{get_or, length, map, ap, subst, ◌∙◌}
use Rattle.std.specs.Prelude.{◌<◌}
use Rattle.sq_exec.proofs.Fills.{none_filled, all_filled, has_place, has_family, part_filled, rooted, fewer}
use Rattle.sq_exec.proofs.partition.fill_partitions.Goals as goal
use Rattle.sq_exec.proofs.partition.fill_partitions.Goals.{After-from-at}

pub loop-root-init : goal.loop-root-init
loop-root-init c = none_filled c.args.plan.now c.args.table (map (λ part. part.core) c.args.cores.now) c.requires.stores

-- the owner of the root key that is taken out has a place
inside : (c : After-from-at) → c.from-at.result < length c.loop-root.cores
inside c =
    has_place c.args.plan.now c.args.cores.now c.loop-root.cores c.requires.parts c.args.table c.loop-root.table c.pop.new.self _ _ c.requires.rising c.loop-root.invariant c.in-Some.ensures.last
    c.from-at.result (c.from-at.ensures ∙ c.number.ensures ∙ c.owner.ensures.owner) (subst (λ part. part < c.args.plan.now.parts) c.owner.ensures.owner c.owner.ensures.exists)

pub bounds-cores-at : goal.bounds-cores-at
bounds-cores-at c = inside (goal.at.bounds-cores-at c).After-from-at

pub fill-requires-clause-here : goal.fill-requires-clause-here
fill-requires-clause-here c =
    has_family c.args.plan.now c.args.cores.now c.loop-root.cores c.requires.parts c.args.table c.loop-root.table c.pop.new.self _ _ c.requires.rising c.loop-root.invariant c.in-Some.ensures.last
    c.from-at.result (c.from-at.ensures ∙ c.number.ensures ∙ c.owner.ensures.owner) (inside (goal.at.fill-requires-clause-here c).After-from-at) (get_or c.loop-root.cores c.from-at.result c.index-cores-at.result) (ap (get_or c.loop-root.cores c.from-at.result) c.index-cores-at.is)

pub fill-requires-clause-rooted : goal.fill-requires-clause-rooted
fill-requires-clause-rooted c = rooted _ _ _ _ c.in-Some.ensures.last c.in-Some.ensures.opening

pub loop-root-preserved : goal.loop-root-preserved
loop-root-preserved c =
    part_filled c.args.plan.now c.args.cores.now c.loop-root.cores c.requires.parts c.args.table c.loop-root.table c.pop.new.self _ _ c.requires.rising c.loop-root.invariant c.in-Some.ensures.last
    c.from-at.result (c.from-at.ensures ∙ c.number.ensures ∙ c.owner.ensures.owner) (inside (goal.at.loop-root-preserved c).After-from-at) (get_or c.loop-root.cores c.from-at.result c.index-cores-at.result) (ap (get_or c.loop-root.cores c.from-at.result) c.index-cores-at.is) c.fill.new.self c.fill.ensures

pub loop-root-smaller : goal.loop-root-smaller
loop-root-smaller c = fewer _ _ _ c.in-Some.ensures.last

pub returns : goal.returns
returns c =
    all_filled c.args.plan.now c.args.table c.loop-root.table (map (λ part. part.core) c.args.cores.now) (map (λ part. part.core) c.loop-root.cores) c.loop-root.invariant c.in_default.ensures.none
