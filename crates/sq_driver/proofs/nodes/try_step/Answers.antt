use Rattle.sq_driver.specs.Told.{DrivenAndTold}
use Rattle.sq_driver.specs.Laws.{telling_no_turn}
use Rattle.sq_driver.proofs.Told.{telling_step}
use Rattle.sq_driver.proofs.nodes.try_step.Goals as goal
use Rattle.sq_driver.proofs.nodes.try_step.Given.{Over}
use Rattle.sq_driver.proofs.nodes.try_step.Goals.{After-step_and_tell-stepped}

-- the node made the step, and its teller heard what it wrote
made : (g : Over) (c : After-step_and_tell-stepped g) → DrivenAndTold g.T.Teller.Tells c.args.fabric.now c.args.node.now c.args.teller.now c.step_and_tell-stepped.new.node c.step_and_tell-stepped.new.teller
made g c =
    telling_step g.T.Teller.Tells c.args.fabric.now c.args.step c.args.node.now c.args.teller.now c.step_and_tell-stepped.result.0
    c.step_and_tell-stepped.new.node c.step_and_tell-stepped.new.teller c.requires c.step_and_tell-stepped.ensures.made c.step_and_tell-stepped.ensures.told

pub returns-then-not-lets_pass : goal.returns-then-not-lets_pass
returns-then-not-lets_pass g c = telling_no_turn g.T.Teller.Tells c.args.fabric.now c.args.node.now c.args.teller.now c.requires

pub returns-in-Did : goal.returns-in-Did
returns-in-Did g c = made g (goal.at.returns-in-Did g c).After-step_and_tell-stepped

pub returns-in-Nothing : goal.returns-in-Nothing
returns-in-Nothing g c = made g (goal.at.returns-in-Nothing g c).After-step_and_tell-stepped

pub returns-in-Memory : goal.returns-in-Memory
returns-in-Memory g c = made g (goal.at.returns-in-Memory g c).After-step_and_tell-stepped
