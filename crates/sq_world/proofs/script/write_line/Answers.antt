use Rattle.std.proofs.Common.{false}
use Rattle.sq_world.specs.Run.{in_manner}
use Rattle.sq_world.proofs.Scripts.{on_spelled, on_refusal}
use Rattle.sq_world.proofs.script.write_line.Goals as goal

pub returns-in-Ok : goal.returns-in-Ok
returns-in-Ok g c = on_spelled (in_manner c.args.echoes false) c.make_step.result c.args.schema.now c.args.line.now c.in-Ok.step _ _ _ _ c.in-Ok.ensures.step c.make_step.ensures

pub returns-in_ok-write_refusal-in-Err : goal.returns-in_ok-write_refusal-in-Err
returns-in_ok-write_refusal-in-Err g c = on_refusal (in_manner c.args.echoes false) c.args.schema.now c.args.line.now c.in-Err.fault _ _ _ _ c.in-Err.ensures.step c.in-Err.ensures.memory c.number-number.ensures c.in_ok-write_refusal-in-Err.ensures
