use Rattle.sq_moves.proofs.Stages.{some_stage}
use Rattle.sq_leader.proofs.moving.Moving.started.Goals as goal

pub invariant_of-result : goal.invariant_of-result
invariant_of-result c = some_stage c.args.recon
