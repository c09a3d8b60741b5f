use Rattle.sq_engine.proofs.Endings.{answered_all}
use Rattle.sq_engine.proofs.laws.a_sound_engine_has_answered_all.Goals as goal

pub returns : goal.returns
returns c = answered_all
