use Rattle.sq_gather.proofs.Running.{holds_in_stage}
use Rattle.sq_gather.proofs.laws.a_run_can_be_gathered.Goals as goal

pub returns : goal.returns
returns c = record {
  all = λ o began fabric nodes pumps run. run.all;
  placed = λ o began fabric nodes pumps run. holds_in_stage o began fabric nodes pumps run;
}
