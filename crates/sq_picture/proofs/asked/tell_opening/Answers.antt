use Rattle.sq_schema.specs.declared.schema.TheConstants.{MAX_TABLES}
use Rattle.sq_world.proofs.Runs.{run_flushed}
use Rattle.sq_picture.specs.Asked.{IsAnswerOf}
use Rattle.sq_picture.proofs.asked.tell_opening.Goals as goal

pub returns : goal.returns
returns g c = run_flushed (IsAnswerOf (g.T.OpeningTelling.tells c.args.telling.now) MAX_TABLES) _ _ _ _ _ c.in_ok-ending.ensures c.flush.ensures.bytes
