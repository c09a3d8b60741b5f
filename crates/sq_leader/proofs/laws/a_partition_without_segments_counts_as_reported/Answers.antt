use Rattle.sq_leader.proofs.Counted.{have_reported-counted}
use Rattle.sq_leader.proofs.laws.a_partition_without_segments_counts_as_reported.Goals as goal

pub returns : goal.returns
returns c = have_reported-counted
