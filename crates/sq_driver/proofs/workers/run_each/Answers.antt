use denote.Param.Send.{sendable}
use Rattle.sq_driver.proofs.Crosses.{fabric_sync}
use Rattle.sq_driver.proofs.attendance.Attendance.TheSendSync as attendance
use Rattle.sq_driver.proofs.workers.run_each.Goals as goal

pub for_each_mut-requires-sync-F : goal.for_each_mut-requires-sync-F
for_each_mut-requires-sync-F g c κs within = let r = c.type_bounds.sync-R in let a = c.type_bounds.sync-G in search (sendable, fabric_sync, attendance.the_sync) depth 30
