use Rattle.sq_store.proofs.Fullest.{fullest}
use Rattle.sq_store.proofs.laws.takes_as_many_as_fit.Goals as goal

pub returns : goal.returns
returns c = fullest
