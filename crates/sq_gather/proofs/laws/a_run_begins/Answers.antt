use Rattle.sq_gather.proofs.Running.{run_begins}
use Rattle.sq_gather.proofs.laws.a_run_begins.Goals as goal

pub returns : goal.returns
returns c = λ o count fabric nodes pumps opens. run_begins o count fabric nodes pumps opens.opening opens.whole opens.opened
