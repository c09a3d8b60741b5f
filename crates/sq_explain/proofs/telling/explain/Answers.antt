use Rattle.sq_explain.proofs.Tellings.{told_flushed}
use Rattle.sq_explain.proofs.telling.explain.Goals as goal

pub returns : goal.returns
returns g c = told_flushed c.args.number _ _ _ c.in_ok-is_told.is_told c.in_ok-is_told.ensures c.flush.ensures.bytes
