use Rattle.std.proofs.Common.{◌-◌}
use Rattle.sq_gather.proofs.stage_done.+reads_complete.Given as goal

abbrev pub decreases-reads_complete : goal.decreases-reads_complete
decreases-reads_complete l = 64 - l.node
