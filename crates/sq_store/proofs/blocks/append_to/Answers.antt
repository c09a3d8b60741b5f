use Rattle.std.proofs.Common.{◌++◌, set, ap, ◌∙◌}
use Rattle.sq_store.specs.Runs.{refilled}
use Rattle.sq_store.proofs.Swaps.{swapped, restored, still_inside}
use Rattle.sq_store.proofs.blocks.append_to.Goals as goal

pub swap-requires-2 : goal.swap-requires-2
swap-requires-2 c = still_inside c.args.runs.now c.swap.new.self c.args.at c.new-all.result.items c.requires c.swap.ensures.runs

pub returns-in-Ok-clause-ok : goal.returns-in-Ok-clause-ok
returns-in-Ok-clause-ok c =
    swapped c.args.runs.now c.swap.new.self c.swap-2.new.self c.args.at c.new-all.result.items c.append-appended.new.self.items c.requires c.swap.ensures.runs c.swap-2.ensures.runs
    ∙ ap (λ fs. set c.args.runs.now c.args.at (refilled c.args.runs.now c.args.at fs)) (c.in-Ok.ensures.items ∙ ap (λ fs. fs ++ c.args.families.items) c.swap.ensures.families)

pub returns-in-Err-clause-err : goal.returns-in-Err-clause-err
returns-in-Err-clause-err c =
    restored c.args.runs.now c.swap.new.self c.swap-2.new.self c.args.at c.new-all.result.items c.append-appended.new.self.items c.requires c.swap.ensures.runs c.swap-2.ensures.runs (c.in-Err.ensures.items ∙ c.swap.ensures.families)
