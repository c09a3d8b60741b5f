use Rattle.std.proofs.Common.{inl, inr, refl, subst}
use Rattle.sq_moves.specs.OpeningValue.{OpeningValue, unlimited}
use Rattle.sq_engine.specs.Engine.{HasOpened}
use Rattle.sq_serving.specs.Becoming.{desk_value}
use Rattle.sq_serving.proofs.Ended.{served_from, sound_planned}
use Rattle.sq_serving.proofs.serving.open_engine.Goals as goal

pub returns-in-Ok : goal.returns-in-Ok
returns-in-Ok g c =
    let saves = g.V.ServeWatch.Saves c.args.watch.now in
    let before = desk_value g.W.Write.contents c.args.desk in
    let engine = c.in-Ok.engine in
    let o = unlimited c.args.opening in
    let ran = c.run_epochs-ended in
    let ending = ran.result.1 in
    let last = ran.new.engine in
    let opened : HasOpened o engine =
    subst (λ (opening : OpeningValue). HasOpened opening engine) c.without_log_limit-opening.ensures.opening c.in-Ok.ensures.opened in
    let reached = c.opening-opening.ensures.reached in
    inl (record {
      engine = engine;
      opened = opened;
      last = last;
      ended = ran.ensures;
      served = served_from saves o engine before ending last ran.ensures.after opened reached ran.ensures.ended;
      sound = sound_planned saves o engine before ending last ran.ensures.after opened reached ran.ensures.ended;
    })

pub returns-in-Err : goal.returns-in-Err
returns-in-Err g c = inr (refl, c.into_outlet.ensures)
