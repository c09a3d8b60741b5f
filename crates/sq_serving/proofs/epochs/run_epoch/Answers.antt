use Rattle.sq_serving.specs.Becoming.{desk_value}
use Rattle.sq_serving.proofs.Steps.{epoch_gives}
use Rattle.sq_serving.proofs.epochs.run_epoch.Goals as goal

pub returns : goal.returns
returns g c =
    let served = c.run_at_desk-served in
    epoch_gives (λ control. desk_value g.W.Write.contents control.desk) served.result c.end_of.result c.args.engine.now _ served.new.engine
    served.new.control served.ensures.served served.ensures.not_served served.ensures.not_called c.end_of.ensures
