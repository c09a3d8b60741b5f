use Rattle.sq_world.specs.Run.{in_manner}
use Rattle.std.proofs.Common.{false}
use Rattle.sq_world.proofs.Scripts.{on_step}
use Rattle.sq_world.proofs.script.make_step.Goals as goal

pub returns : goal.returns
returns g c = on_step (in_manner c.args.echoes false) c.write_told.result c.args.line.now c.args.step.now c.step-answer.result _ _ _ _ c.step-answer.ensures.headline c.write_told.ensures.text c.write_told.ensures.refused
