use Rattle.sq_engine.proofs.Epochs.{placed_there}
use Rattle.sq_engine.proofs.laws.what_an_engine_comes_by_is_placed.Goals as goal

pub returns : goal.returns
returns c = placed_there
