use Rattle.sq_driver.specs.Laws.{telling_further}
use Rattle.sq_driver.specs.Told.{DrivenAndTold}
use Rattle.sq_driver.proofs.Told.{telling_looks}
use Rattle.sq_driver.proofs.nodes.take_node_turn.Goals as goal
use Rattle.sq_driver.proofs.nodes.take_node_turn.Given.{Over}
use Rattle.sq_driver.proofs.nodes.take_node_turn.Goals.{After-try_step, After-serve_on, After-close_if_idle}

-- the node was driven up to the step that it tried
tried : (g : Over) (c : After-try_step g) → DrivenAndTold g.T.Teller.Tells c.args.fabric.now c.args.node.now c.args.teller.now c.try_step.new.node c.try_step.new.teller
tried g c =
    telling_further g.T.Teller.Tells c.args.fabric.now c.args.node.now c.args.teller.now c.loop-step.node c.loop-step.teller
    c.try_step.new.node c.try_step.new.teller c.loop-step.invariant c.try_step.ensures

-- the node was driven until it had continued with jobs
served : (g : Over) (c : After-serve_on g) → DrivenAndTold g.T.Teller.Tells c.args.fabric.now c.args.node.now c.args.teller.now c.serve_on.new.node c.serve_on.new.teller
served g c =
    telling_further g.T.Teller.Tells c.args.fabric.now c.args.node.now c.args.teller.now c.loop-step.node c.loop-step.teller
    c.serve_on.new.node c.serve_on.new.teller c.loop-step.invariant c.serve_on.ensures

-- the node was driven until it had looked whether it is idle
looked : (g : Over) (c : After-close_if_idle g) → DrivenAndTold g.T.Teller.Tells c.args.fabric.now c.args.node.now c.args.teller.now c.close_if_idle.new.self c.serve_on.new.teller
looked g c =
    telling_looks g.T.Teller.Tells c.args.fabric.now c.args.node.now c.args.teller.now c.serve_on.new.node c.serve_on.new.teller
    c.close_if_idle.new.self
    (telling_further g.T.Teller.Tells c.args.fabric.now c.args.node.now c.args.teller.now c.loop-step.node c.loop-step.teller c.serve_on.new.node c.serve_on.new.teller c.loop-step.invariant c.serve_on.ensures)
    c.close_if_idle.ensures.looks

pub returns-in-Ended : goal.returns-in-Ended
returns-in-Ended g c = tried g (goal.at.returns-in-Ended g c).After-try_step

pub loop-step-preserved : goal.loop-step-preserved
loop-step-preserved g c = tried g (goal.at.loop-step-preserved g c).After-try_step

pub returns-then-not-serve_on : goal.returns-then-not-serve_on
returns-then-not-serve_on g c = served g (goal.at.returns-then-not-serve_on g c).After-serve_on

pub returns-then-not-ends_when_idle-2 : goal.returns-then-not-ends_when_idle-2
returns-then-not-ends_when_idle-2 g c = served g (goal.at.returns-then-not-ends_when_idle-2 g c).After-serve_on

pub returns-then-close_if_idle : goal.returns-then-close_if_idle
returns-then-close_if_idle g c = looked g (goal.at.returns-then-close_if_idle g c).After-close_if_idle

pub returns : goal.returns
returns g c = looked g (goal.at.returns g c).After-close_if_idle
