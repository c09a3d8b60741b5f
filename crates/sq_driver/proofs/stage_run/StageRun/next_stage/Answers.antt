use Rattle.std.proofs.Common.{◌≡◌, sym, subst}
use Rattle.std.proofs.lemmas.Result.{IfOk-weaker}
use Rattle.sq_schema.specs.Table.{TableValue}
use Rattle.sq_node_model.specs.Folded.{folded_opening}
use Rattle.sq_gather.specs.Reopened.{IsNextStageOf}
use Rattle.sq_driver.specs.StageRunValue.{StageRunValue, stage_run_of}
use Rattle.sq_driver.proofs.Collected.{new_in_order, new_unanswered}
use Rattle.sq_driver.proofs.stage_run.StageRun.next_stage.Goals as goal

pub with_tellers-requires-clause-in_order : goal.with_tellers-requires-clause-in_order
with_tellers-requires-clause-in_order c =
    new_in_order c.args.opening.now c.in-Ok.parts.fabric c.args.g.stores c.in-Ok.parts.nodes.items c.in-Ok.ensures.reopened.each_node

pub with_tellers-requires-clause-unanswered : goal.with_tellers-requires-clause-unanswered
with_tellers-requires-clause-unanswered c =
    new_unanswered c.args.opening.now c.in-Ok.parts.fabric c.args.g.stores c.in-Ok.parts.nodes.items c.in-Ok.ensures.reopened.each_node

pub returns-in-Ok : goal.returns-in-Ok
returns-in-Ok c =
    let o = c.args.opening.now in
    let parts = c.in-Ok.parts in
    record {
      run = IfOk-weaker c.with_tellers.result (λ run. run ≡ stage_run_of parts.fabric parts.nodes.items parts.pumps.items)
          (λ (run : StageRunValue). (table : TableValue) → IsNextStageOf (folded_opening o table) c.args.g run.fabric run.nodes run.pumps)
          (λ run is. subst (λ (run : StageRunValue). (table : TableValue) → IsNextStageOf (folded_opening o table) c.args.g run.fabric run.nodes run.pumps) (sym is) c.in-Ok.ensures.run)
          c.with_tellers.ensures;
    }
