use denote.Param.Send.{sendable}
use Rattle.sq_driver.proofs.Crosses.{fabric_sync}
use Rattle.sq_engine.proofs.crew.Crew.TheSendSync as crew
use Rattle.sq_engine.proofs.epoch_gate.EpochGate.TheSendSync as gate
use Rattle.sq_engine.proofs.crew.run_and_serve.Goals as goal

pub join_mut-requires-send-F : goal.join_mut-requires-send-F
join_mut-requires-send-F g c κs within = let r = c.type_bounds.sync-R in search (sendable, fabric_sync, crew.the_send, gate.the_sync) depth 30
