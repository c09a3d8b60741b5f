use Rattle.sq_leader.proofs.LedStages.{ends, stays_last}
use Rattle.sq_leader.proofs.leading.end_move.Goals as goal

pub returns-in-Ok : goal.returns-in-Ok
returns-in-Ok c = ends c.args.opening.now c.args.moving.stage c.args.whole.now c.args.moving c.requires.reported c.in-Ok.field-0 c.in-Ok.ensures.answer

pub returns : goal.returns
returns c =
    stays_last c.args.opening.now c.args.moving.stage c.args.whole.now c.args.moving c.requires.reported c.requires.opening c.requires.last c.in-Err.field-0 c.in-Err.ensures.answer
