use Rattle.sq_laws.proofs.Effects.{replay_fits}
use Rattle.sq_laws.proofs.fit.transactions_keep_rows_fit.Goals as goal

pub returns : goal.returns
returns c = replay_fits
