use Rattle.sq_world.proofs.Scripting.{no_script}
use Rattle.sq_world.proofs.move_script.write_from.Goals as goal

pub returns-in-Err : goal.returns-in-Err
returns-in-Err g c = no_script c.args.opening c.end_by.result c.in-Err.no_script _ _ _ c.fault.ensures c.end_by.ensures
