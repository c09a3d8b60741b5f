use Rattle.sq_world.proofs.Scripting.{for_header, for_fault}
use Rattle.sq_world.proofs.move_script.write_for_header.Goals as goal

pub returns-in-Ok : goal.returns-in-Ok
returns-in-Ok g c = for_header c.write_from.result _ c.in-Ok.opening _ _ _ _ c.largest.ensures c.in-Ok.ensures.header c.write_from.ensures

pub returns-in-Err : goal.returns-in-Err
returns-in-Err g c = for_fault c.end_by.result _ c.in-Err.fault _ _ _ _ c.largest.ensures c.in-Err.ensures.header c.end_by.ensures
