use denote.Param.Send.{sendable}
use Rattle.sq_driver.proofs.Crosses.{fabric_sync}
use Rattle.sq_driver.proofs.attendance.Attendance.TheSendSync as attendance
use Rattle.sq_driver.proofs.workers.run_all.Goals as goal

pub join_mut-requires-send-F : goal.join_mut-requires-send-F
join_mut-requires-send-F g c κs within =
    let w = c.type_bounds.send-W in let r = c.type_bounds.sync-R in let a = c.type_bounds.sync-G in search (sendable, fabric_sync, attendance.the_sync) depth 30
