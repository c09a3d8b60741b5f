use Rattle.sq_leader.proofs.Marked.{is_marked-marks_after}
use Rattle.sq_leader.proofs.laws.those_that_told_it_are_marked.Goals as goal

pub returns : goal.returns
returns c = is_marked-marks_after
