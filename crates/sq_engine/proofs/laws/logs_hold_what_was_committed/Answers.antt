use Rattle.sq_engine.proofs.Endings.{logs_committed}
use Rattle.sq_engine.proofs.laws.logs_hold_what_was_committed.Goals as goal

pub returns : goal.returns
returns c = logs_committed
