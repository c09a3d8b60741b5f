use denote.Param.Send.{sendable}
use Rattle.std.proofs.Crossing.{frees}
use Rattle.std.proofs.alloc.Global.TheSendSync as global
use Rattle.std.proofs.vec.Vec.TheSendSync as vec
use Rattle.sq_driver.proofs.Crosses.{fabric_sync}
use Rattle.sq_driver.proofs.teller.TellingNode.TheSendSync as pair
use Rattle.sq_driver.proofs.collector.Collector.TheSendSync as collector
use Rattle.sq_engine_tests.proofs.tests.ending.EnoughGate.TheSendSync as gate
use Rattle.sq_engine_tests.proofs.tests.ending.run_beside.Goals as goal

pub join-requires-send-F : goal.join-requires-send-F
join-requires-send-F g c κs within =
    let r = c.type_bounds.sync-R in
    search (sendable, fabric_sync, gate.the_sync, vec.the_send, global.the_send, frees, pair.the_send, collector.the_send) depth 30
