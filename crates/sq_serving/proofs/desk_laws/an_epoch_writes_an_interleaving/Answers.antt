use Rattle.sq_serving.proofs.Interleaved.{given_interleave}
use Rattle.sq_serving.proofs.desk_laws.an_epoch_writes_an_interleaving.Goals as goal

pub returns : goal.returns
returns c = λ events nodes before after epoch. given_interleave events nodes epoch.driven before after epoch.writes epoch.arrive
