use Rattle.sq_laws.proofs.ReadBackFit.{both_fit}
use Rattle.sq_laws.proofs.read_back.some_families_are_fit.Goals as goal

pub returns : goal.returns
returns c = both_fit
