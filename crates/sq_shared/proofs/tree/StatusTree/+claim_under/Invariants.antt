use Rattle.std.proofs.Common.{◌-◌}
use Rattle.sq_shared.proofs.tree.StatusTree.+claim_under.Given as goal

abbrev pub decreases-claim_under : goal.decreases-claim_under
decreases-claim_under l = 64 - l.node
