use Rattle.std.proofs.lemmas.Result.{IfOk-weaker}
use Rattle.sq_engine.specs.declared.engine.Served.{Served}
use Rattle.sq_examples.specs.Return.{StaysAt}
use Rattle.sq_examples.proofs.Coming.{from_ok, on_some, served_stays}
use Rattle.sq_examples.proofs.engine.serve_until.Goals as goal

pub returns : goal.returns
returns g c =
    on_some c.then_some.result (StaysAt c.args.engine.now c.serve.new.self)
    (from_ok (λ (served : Served). StaysAt c.args.engine.now c.serve.new.self) c.serve.result c.in_ok-served.served
    c.in_ok-served.ensures.value
    (IfOk-weaker c.serve.result _ (λ (served : Served). StaysAt c.args.engine.now c.serve.new.self)
    (λ served is. served_stays is) c.serve.ensures.served))
