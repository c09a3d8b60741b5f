use Rattle.sq_leader.proofs.Stages.{ends_heard}
use Rattle.sq_leader.proofs.laws.an_ended_move_heard_each_segment_in_its_stage.Goals as goal

pub returns : goal.returns
returns c = ends_heard
