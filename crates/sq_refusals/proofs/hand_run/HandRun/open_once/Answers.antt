use Rattle.sq_gather.proofs.AllOf.{all_of_opened}
use Rattle.sq_refusals.proofs.hand_run.HandRun.open_once.Goals as goal

pub of-requires : goal.of-requires
of-requires c = all_of_opened c.args.opening.now 1 c.in_ok-parts.parts.fabric c.in_ok-parts.parts.nodes.items c.in_ok-parts.parts.pumps.items c.in_ok-parts.ensures.opened
