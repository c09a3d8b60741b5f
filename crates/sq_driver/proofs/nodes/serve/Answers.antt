use Rattle.sq_driver.specs.Laws.{telling_further}
use Rattle.sq_driver.proofs.nodes.serve.Goals as goal

pub returns-in-Rested : goal.returns-in-Rested
returns-in-Rested g c =
    telling_further g.T.Teller.Tells c.args.fabric.now c.args.node.now c.args.teller.now c.try_step.new.node c.try_step.new.teller
    c.try_step-in-Rested.new.node c.try_step-in-Rested.new.teller c.try_step.ensures c.try_step-in-Rested.ensures
