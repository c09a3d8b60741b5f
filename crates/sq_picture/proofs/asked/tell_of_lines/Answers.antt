use Rattle.sq_picture.proofs.Answers.{answered, not_answered}
use Rattle.sq_picture.proofs.asked.tell_of_lines.Goals as goal

pub returns-in-Ok : goal.returns-in-Ok
returns-in-Ok g c = answered (g.T.OpeningTelling.tells c.args.telling.now) c.tell.result _ c.in-Ok.opening _ _ _ _ c.largest.ensures c.in-Ok.ensures.header c.tell.ensures

pub returns-in-Err : goal.returns-in-Err
returns-in-Err g c = not_answered (g.T.OpeningTelling.tells c.args.telling.now) c.refuse.result _ _ _ _ _ _ c.largest.ensures c.in-Err.ensures.header c.refuse.ensures
