use Rattle.sq_gather.proofs.Running.{run_goes_on}
use Rattle.sq_gather.proofs.laws.a_run_goes_on.Goals as goal

pub returns : goal.returns
returns c = λ fabric old new before after nodes pumps o began opening run. run_goes_on o began fabric old new before after opening run nodes pumps
