use Rattle.std.proofs.Common.{refl}
use Rattle.sq_model.specs.declared.step.Phase.TheVariants.{Ended}
use Rattle.sq_world.proofs.Scripting.{whole}
use Rattle.sq_world.proofs.move_script.script_of.Goals as goal

pub returns-in-Ended : goal.returns-in-Ended
returns-in-Ended c =
    whole c.args.opening c.new-draft.result c.make_all.new.draft c.in-Ok-from_opening.world Ended
    c.in-Ok-from_opening.ensures.opened.0 c.in-Ok-from_opening.ensures.opened.1 c.new-draft.ensures.world c.new-draft.ensures.empty
    c.in_ok-make_all.ensures c.in-Ended.ensures.by_history refl
