use Rattle.sq_leader.proofs.Marked.{all_marked-marks_after}
use Rattle.sq_leader.proofs.laws.a_move_starts_once_each_partition_prepared.Goals as goal

pub returns : goal.returns
returns c = all_marked-marks_after
