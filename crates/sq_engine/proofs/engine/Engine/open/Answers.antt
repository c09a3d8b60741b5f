use Rattle.std.proofs.Common.{◌≡◌, sym, subst}
use Rattle.sq_moves.specs.OpeningValue.{OpeningValue}
use Rattle.sq_engine.specs.Open.{OpenJobsValue}
use Rattle.sq_engine.specs.Values.{RunValue, run_value, Running, engine_value}
use Rattle.sq_engine.specs.Engine.{IsReached}
use Rattle.sq_engine.proofs.Reached.{opened_reached}
use Rattle.sq_engine.proofs.engine.Engine.open.Goals as goal

pub invariant_of-result : goal.invariant_of-result
invariant_of-result g c =
    let o = c.args.opening in
    let opened = c.in-Ok.run' in
    let run : RunValue = run_value opened.fabric opened.nodes.items opened.pumps.items in
    let was = c.in-Ok.ensures in
    let first : c.of.result.value ≡ o = c.of.ensures in
    let kept = c.with_table.ensures.opening in
    let none = c.new-2.ensures in (
      c.requires,
      c.with_table.ensures.set_up,
      subst (λ (p : OpeningValue × OpeningValue × OpenJobsValue). IsReached (engine_value p.0 p.1 p.2 (Running run)))
          (λ i. (sym first i, sym kept i, sym none i))
          (opened_reached o c.args.pumps run was.set_up was.fabric was.opened),
    )
