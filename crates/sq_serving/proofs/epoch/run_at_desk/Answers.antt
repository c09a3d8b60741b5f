use Rattle.std.proofs.lemmas.Result.{IfOk-weaker}
use Rattle.sq_engine.specs.declared.engine.Served.{Served}
use Rattle.sq_engine.specs.Engine.{segments_of}
use Rattle.sq_serving.specs.Becoming.{desk_value}
use Rattle.sq_serving.specs.Written.{EpochIsWritten}
use Rattle.sq_serving.proofs.DeskEpochs.{answers_each}
use Rattle.sq_serving.proofs.epoch.run_at_desk.Goals as goal

pub returns-clause-served : goal.returns-clause-served
returns-clause-served g c =
    let contents = g.W.Write.contents in
    let before = c.args.control.now in
    let after = c.serve.new.client in
    IfOk-weaker c.serve.result _
    (λ (served : Served). EpochIsWritten c.args.engine.now (desk_value contents before.desk) served.end
    c.serve.new.self (desk_value contents after.desk))
    (λ served is.
    record {
      more = is.more;
      epoch = is.epoch;
      answers = answers_each (λ control. desk_value contents control.desk) (segments_of is.epoch.opening is.epoch.run) is.more before after is.client;
    })
    c.serve.ensures.served
