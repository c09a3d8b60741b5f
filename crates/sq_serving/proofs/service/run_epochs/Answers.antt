use Rattle.std.proofs.Common.{subst, ap}
use Rattle.std.specs.Prelude.{Result}
use Rattle.sq_serving.specs.declared.ending.ServeEnding.{ServeEnding}
use Rattle.sq_serving.specs.declared.outlet.Outlet.{Outlet}
use Rattle.sq_serving.specs.Becoming.{desk_value}
use Rattle.sq_serving.specs.Steps.{StepGives}
use Rattle.sq_serving.proofs.Served.{not_yet, served_then, served_ends}
use Rattle.sq_serving.proofs.service.run_epochs.Goals as goal

pub loop-init : goal.loop-init
loop-init g c =
    not_yet (g.V.ServeWatch.Saves c.args.watch.now) c.args.engine.now (desk_value g.W.Write.contents c.args.desk)

pub loop-preserved : goal.loop-preserved
loop-preserved g c =
    let dv = desk_value g.W.Write.contents in
    let saves = g.V.ServeWatch.Saves c.args.watch.now in
    let step = c.run_epoch_and_wish-next in
    served_then saves c.args.engine.now (dv c.args.desk) c.loop.engine (dv c.loop.desk) step.new.engine (dv step.result.0)
    c.loop.invariant
    (subst (λ (r : Result _ ServeEnding). StepGives saves c.loop.engine (dv c.loop.desk) r step.new.engine (dv step.result.0)) c.in-Ok.is step.ensures)

pub returns-in-Err : goal.returns-in-Err
returns-in-Err g c =
    let dv = desk_value g.W.Write.contents in
    let saves = g.V.ServeWatch.Saves c.args.watch.now in
    let step = c.run_epoch_and_wish-next in
    let last = step.result.0 in
    record {
      after = dv last;
      ended =
          served_ends saves c.args.engine.now (dv c.args.desk) c.loop.engine (dv c.loop.desk) c.in-Err.ending step.new.engine (dv last)
          c.loop.invariant
          (subst (λ (r : Result _ ServeEnding). StepGives saves c.loop.engine (dv c.loop.desk) r step.new.engine (dv last)) c.in-Err.is step.ensures);
      written = ap (λ (o : Outlet _). g.W.Write.contents o.writer) c.into_outlet.ensures;
      failed = ap (λ (o : Outlet _). o.has_failed) c.into_outlet.ensures;
    }
