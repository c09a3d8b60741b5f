use Rattle.std.proofs.Common.{set, ap, ◌∙◌}
use Rattle.sq_store.specs.Listed.{folded_families}
use Rattle.sq_store.specs.Runs.{refilled}
use Rattle.sq_store.proofs.Swaps.{swapped, still_inside}
use Rattle.sq_store.proofs.putting.fold_run.Goals as goal

pub swap-requires-2 : goal.swap-requires-2
swap-requires-2 c = still_inside c.args.runs.now c.swap.new.self c.args.at c.new-families.result.items c.requires c.swap.ensures.runs

pub returns : goal.returns
returns c =
    swapped c.args.runs.now c.swap.new.self c.swap-2.new.self c.args.at c.new-families.result.items c.fold_all.new.families.items c.requires c.swap.ensures.runs c.swap-2.ensures.runs
    ∙ ap (λ fs. set c.args.runs.now c.args.at (refilled c.args.runs.now c.args.at fs)) (c.fold_all.ensures ∙ ap folded_families c.swap.ensures.families)
