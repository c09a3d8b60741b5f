use Rattle.std.proofs.Common.{sym, ◌∙◌}
use Rattle.sq_serving.specs.Becoming.{desk_value}
use Rattle.sq_serving.proofs.Served.{served_steps, epoch_served, flushed}
use Rattle.sq_serving.proofs.Steps.{epoch_steps, epoch_goes_on}
use Rattle.sq_serving.proofs.service.run_epoch_and_wish.Goals as goal

pub returns-then-is_err : goal.returns-then-is_err
returns-then-is_err g c =
    let dv = desk_value g.W.Write.contents in
    let saves = g.V.ServeWatch.Saves c.args.watch.now in
    let ran = c.run_epoch-desk in
    let before = dv c.args.desk in
    let mid = dv c.flush.new.self in
    served_steps saves c.args.engine.now before c.args.engine.now mid ran.result.1 ran.new.engine (dv ran.result.0)
    (flushed saves c.args.engine.now before mid c.flush.ensures)
    (epoch_steps saves c.args.engine.now mid ran.result.1 ran.new.engine (dv ran.result.0) ran.ensures)

pub returns : goal.returns
returns g c =
    let dv = desk_value g.W.Write.contents in
    let saves = g.V.ServeWatch.Saves c.args.watch.now in
    let ran = c.run_epoch-desk in
    let went = c.go_on-step in
    let engine = c.args.engine.now in
    let before = dv c.args.desk in
    let mid = dv c.flush.new.self in
    let between = dv ran.result.0 in
    let after = dv went.new.desk in
    served_steps saves engine before engine mid went.result went.new.engine after
    (flushed saves engine before mid c.flush.ensures)
    (served_steps saves engine mid ran.new.engine between went.result went.new.engine after
    (epoch_served saves engine mid ran.new.engine between
    (epoch_goes_on saves engine mid ran.result.1 ran.new.engine between (sym c.is_err.ensures.value ∙ c.if-is_err.false) ran.ensures))
    went.ensures.gives)
