use Rattle.sq_node_model.specs.Folded.{folded_opening}
use Rattle.sq_node.proofs.NewNodes.{rowless_run}
use Rattle.sq_node_model.proofs.Folded.{rowless_opening}
use Rattle.sq_gather.proofs.Running.{run_moves_on}
use Rattle.sq_gather.proofs.reopened.move_on.Goals as goal

pub returns-clause-run : goal.returns-clause-run
returns-clause-run c = λ table o is placed done follows.
    let next = c.args.next.now in
    let g = c.args.g in
    let fabric = c.in_ok-opened.opened.fabric in
    let nodes = c.in_ok-opened.opened.nodes.items in
    let pumps = c.in_ok-opened.opened.pumps.items in
    let run = c.in_ok-opened.ensures in
    run_moves_on o (folded_opening next table) g c.args.pumps fabric nodes pumps is (rowless_opening next table c.in_ok-opened.ensures.opening) placed done follows run.stores run.fabric
    (rowless_run next table 0 g.stores g.receipts c.args.pumps fabric nodes pumps run.run) (run.holds table)

pub returns-clause-reopened : goal.returns-clause-reopened
returns-clause-reopened c = c.in_ok-opened.ensures.run

pub returns-clause-pumps : goal.returns-clause-pumps
returns-clause-pumps c = let run = c.in_ok-opened.ensures.run in run.each_pump.all
