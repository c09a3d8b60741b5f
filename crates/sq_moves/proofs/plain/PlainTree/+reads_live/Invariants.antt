use Rattle.std.proofs.Common.{◌-◌}
use Rattle.sq_moves.proofs.plain.PlainTree.+reads_live.Given as goal

abbrev pub decreases-reads_live : goal.decreases-reads_live
decreases-reads_live l = 64 - l.node
