use Rattle.sq_driver.specs.Laws.{telling_further}
use Rattle.sq_driver.specs.Told.{DrivenAndTold}
use Rattle.sq_driver.proofs.nodes.take_rest_turn.Goals as goal
use Rattle.sq_driver.proofs.nodes.take_rest_turn.Given.{Over}
use Rattle.sq_driver.proofs.nodes.take_rest_turn.Goals.{After-serve}

-- the node was driven up to the job that it served
served : (g : Over) (c : After-serve g) → DrivenAndTold g.T.Teller.Tells c.args.fabric.now c.args.node.now c.args.teller.now c.serve.new.node c.serve.new.teller
served g c =
    telling_further g.T.Teller.Tells c.args.fabric.now c.args.node.now c.args.teller.now c.loop-job.node c.loop-job.teller
    c.serve.new.node c.serve.new.teller c.loop-job.invariant c.serve.ensures

pub returns-in_default : goal.returns-in_default
returns-in_default g c = served g (goal.at.returns-in_default g c).After-serve

pub loop-job-preserved : goal.loop-job-preserved
loop-job-preserved g c = served g (goal.at.loop-job-preserved g c).After-serve

pub returns-then-not-has_forwarded : goal.returns-then-not-has_forwarded
returns-then-not-has_forwarded g c = served g (goal.at.returns-then-not-has_forwarded g c).After-serve
