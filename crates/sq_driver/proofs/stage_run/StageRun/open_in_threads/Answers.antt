use Rattle.std.proofs.Common.{◌≡◌, sym, subst}
use Rattle.std.proofs.lemmas.Result.{IfOk-weaker}
use Rattle.sq_node.specs.Opened.{opened_stores}
use Rattle.sq_node_model.specs.BeganWith.{first_began}
use Rattle.sq_gather.specs.Reopened.{IsRunInStage}
use Rattle.sq_gather.proofs.Running.{run_begins}
use Rattle.sq_driver.specs.StageRunValue.{BeganFrom, stage_run_of}
use Rattle.sq_driver.proofs.Collected.{new_in_order, new_unanswered}
use Rattle.sq_driver.proofs.stage_run.StageRun.open_in_threads.Goals as goal
use Rattle.sq_driver.proofs.stage_run.StageRun.open_in_threads.Goals.{In_ok-parts}
use Rattle.sq_driver.proofs.stage_run.StageRun.open_in_threads.Given.{Over}

begins : (g : Over) (c : In_ok-parts g) → IsRunInStage c.args.opening.now (first_began c.args.opening.now) c.in_ok-parts.parts.fabric c.in_ok-parts.parts.nodes.items c.in_ok-parts.parts.pumps.items
begins g c =
    let opened = c.in_ok-parts.ensures in
    run_begins c.args.opening.now c.args.pumps c.in_ok-parts.parts.fabric c.in_ok-parts.parts.nodes.items c.in_ok-parts.parts.pumps.items opened.set_up.opening opened.fabric opened.opened

pub with_tellers-requires-clause-all : goal.with_tellers-requires-clause-all
with_tellers-requires-clause-all g c = (begins g (goal.at.with_tellers-requires-clause-all g c).In_ok-parts).all

pub with_tellers-requires-clause-in_order : goal.with_tellers-requires-clause-in_order
with_tellers-requires-clause-in_order g c =
    let o = c.args.opening.now in
    new_in_order o c.in_ok-parts.parts.fabric (opened_stores o) c.in_ok-parts.parts.nodes.items c.in_ok-parts.ensures.opened.each_node

pub with_tellers-requires-clause-unanswered : goal.with_tellers-requires-clause-unanswered
with_tellers-requires-clause-unanswered g c =
    let o = c.args.opening.now in
    new_unanswered o c.in_ok-parts.parts.fabric (opened_stores o) c.in_ok-parts.parts.nodes.items c.in_ok-parts.ensures.opened.each_node

pub returns-clause-run : goal.returns-clause-run
returns-clause-run g c =
    let o = c.args.opening.now in
    let parts = c.in_ok-parts.parts in
    IfOk-weaker c.with_tellers.result (λ run. run ≡ stage_run_of parts.fabric parts.nodes.items parts.pumps.items) (BeganFrom o (first_began o))
    (λ run is. subst (BeganFrom o (first_began o)) (sym is) (begins g (goal.at.returns-clause-run g c).In_ok-parts))
    c.with_tellers.ensures
