use Rattle.sq_world.proofs.Reaches.{opens, open_reached}
use Rattle.sq_world.proofs.world.World.from_opening.Goals as goal

-- src/world.rt:83:9
pub invariant_of-result : goal.invariant_of-result
invariant_of-result c = open_reached c.args.opening c.in_ok-open.field-0 c.in_ok-open.ensures.set_up c.in_ok-open.ensures.opened

-- src/world.rt:78:5
pub returns-clause-opened : goal.returns-clause-opened
returns-clause-opened c = opens c.args.opening c.in_ok-open.field-0 c.in_ok-open.ensures.set_up c.in_ok-open.ensures.opened
