use Rattle.sq_driver.specs.Laws.{telling_no_turn, telling_further}
use Rattle.sq_driver.specs.Told.{DrivenAndTold}
use Rattle.sq_driver.proofs.nodes.serve_on.Goals as goal
use Rattle.sq_driver.proofs.nodes.serve_on.Given.{Over}
use Rattle.sq_driver.proofs.nodes.serve_on.Goals.{After-serve}

-- the node was driven up to the job that it served
served : (g : Over) (c : After-serve g) → DrivenAndTold g.T.Teller.Tells c.args.fabric.now c.args.node.now c.args.teller.now c.serve.new.node c.serve.new.teller
served g c =
    telling_further g.T.Teller.Tells c.args.fabric.now c.args.node.now c.args.teller.now c.loop-job.node c.loop-job.teller
    c.serve.new.node c.serve.new.teller c.loop-job.invariant c.serve.ensures

pub loop-job-init : goal.loop-job-init
loop-job-init g c = telling_no_turn g.T.Teller.Tells c.args.fabric.now c.args.node.now c.args.teller.now c.requires

pub returns-in-Rested : goal.returns-in-Rested
returns-in-Rested g c = served g (goal.at.returns-in-Rested g c).After-serve

pub returns-in-Ended : goal.returns-in-Ended
returns-in-Ended g c = served g (goal.at.returns-in-Ended g c).After-serve

pub loop-job-preserved : goal.loop-job-preserved
loop-job-preserved g c = served g (goal.at.loop-job-preserved g c).After-serve
