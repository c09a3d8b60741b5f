use Rattle.sq_serving.proofs.DeskEpochs.{answers_each}
use Rattle.sq_serving.proofs.desk_laws.an_epoch_settles_each_line.Goals as goal

pub returns : goal.returns
returns c = λ segments events first last went. answers_each (λ desk. desk) segments events first last went
