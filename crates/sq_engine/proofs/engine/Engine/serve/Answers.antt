use Rattle.sq_engine.proofs.Going.{serves_between}
use Rattle.sq_engine.proofs.engine.Engine.serve.Goals as goal

pub returns-clause-served : goal.returns-clause-served
returns-clause-served g c =
    serves_between g.C.Client.Becomes c.args.self.now c.begin_epoch.new.self c.args.client.now c.in_ok-served.served.end
    c.run_epoch.new.self c.run_epoch.new.client c.end_stage.new.self
    c.begin_epoch.ensures c.in_ok-served.ensures.served c.end_stage.ensures
