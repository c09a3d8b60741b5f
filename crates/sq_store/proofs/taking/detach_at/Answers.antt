use Rattle.std.proofs.Common.{◌≡◌, set, ap, ◌∙◌, subst}
use Rattle.std.specs.Prelude.{IfOk}
use Rattle.sq_store.specs.Listed.{roots_rise}
use Rattle.sq_store.specs.Runs.{between, outside, refilled}
use Rattle.sq_store.proofs.SetRuns.{on_ok, on_err}
use Rattle.sq_store.proofs.Swaps.{swapped, restored, still_inside}
use Rattle.sq_store.proofs.taking.detach_at.Goals as goal

pub detach-taken-requires-clause-rise : goal.detach-taken-requires-clause-rise
detach-taken-requires-clause-rise c = ap roots_rise c.swap.ensures.families ∙ c.requires.rise

pub swap-requires-2 : goal.swap-requires-2
swap-requires-2 c = still_inside c.args.runs.now c.swap.new.self c.args.at c.new-families.result.items c.requires.at c.swap.ensures.runs

pub returns-clause-taken : goal.returns-clause-taken
returns-clause-taken c = subst (λ fs. IfOk c.detach-taken.result (λ taken. taken.items ≡ between c.args.lo c.args.hi fs)) c.swap.ensures.families c.detach-taken.ensures.taken

pub returns-clause-left : goal.returns-clause-left
returns-clause-left c =
    on_ok c.detach-taken.result
    (λ (left : c.detach-taken.new.families.items ≡ outside c.args.lo c.args.hi c.swap.new.families.items).
    swapped c.args.runs.now c.swap.new.self c.swap-2.new.self c.args.at c.new-families.result.items c.detach-taken.new.families.items c.requires.at c.swap.ensures.runs c.swap-2.ensures.runs
    ∙ ap (λ fs. set c.args.runs.now c.args.at (refilled c.args.runs.now c.args.at fs)) (left ∙ ap (outside c.args.lo c.args.hi) c.swap.ensures.families))
    c.detach-taken.ensures.left

pub returns-clause-err : goal.returns-clause-err
returns-clause-err c =
    on_err c.detach-taken.result
    (λ (same : c.detach-taken.new.families.items ≡ c.swap.new.families.items).
    restored c.args.runs.now c.swap.new.self c.swap-2.new.self c.args.at c.new-families.result.items c.detach-taken.new.families.items c.requires.at c.swap.ensures.runs c.swap-2.ensures.runs (same ∙ c.swap.ensures.families))
    c.detach-taken.ensures.err
