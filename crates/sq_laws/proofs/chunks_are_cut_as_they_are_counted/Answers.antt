use Rattle.sq_laws.proofs.Cuts.{taken_is, as_many, there_are_some}
use Rattle.sq_laws.proofs.chunks_are_cut_as_they_are_counted.Goals as goal

pub returns-clause-takes : goal.returns-clause-takes
returns-clause-takes c = taken_is

pub returns-clause-count : goal.returns-clause-count
returns-clause-count c = as_many

pub returns-clause-some : goal.returns-clause-some
returns-clause-some c = there_are_some
