use Rattle.sq_driver.proofs.Told.{request_writes, cut_writes, send_writes, recv_writes, load_writes, complete_writes}
use Rattle.sq_driver.proofs.nodes.make_step.Goals as goal

pub returns-in-Request-clause-receipt : goal.returns-in-Request-clause-receipt
returns-in-Request-clause-receipt g c = request_writes c.args.node.now c.step_request.result c.step_request.new.self c.step_request.ensures.step

pub returns-in-Cut-clause-receipt : goal.returns-in-Cut-clause-receipt
returns-in-Cut-clause-receipt g c = cut_writes c.args.node.now c.step_cut.result c.step_cut.new.self c.step_cut.ensures.step

pub returns-in-Send-clause-receipt : goal.returns-in-Send-clause-receipt
returns-in-Send-clause-receipt g c = send_writes c.args.fabric.now c.args.node.now c.step_send.result c.step_send.new.self c.step_send.ensures.step

pub returns-in-Recv-clause-receipt : goal.returns-in-Recv-clause-receipt
returns-in-Recv-clause-receipt g c = recv_writes c.args.node.now c.step_recv.result c.step_recv.new.self c.step_recv.ensures.step

pub returns-in-Load-clause-receipt : goal.returns-in-Load-clause-receipt
returns-in-Load-clause-receipt g c = load_writes c.args.node.now c.step_load.result c.step_load.new.self c.step_load.ensures.makes.step

pub returns-in-Complete-clause-receipt : goal.returns-in-Complete-clause-receipt
returns-in-Complete-clause-receipt g c = complete_writes c.args.node.now c.step_complete.result c.step_complete.new.self c.step_complete.ensures.step
