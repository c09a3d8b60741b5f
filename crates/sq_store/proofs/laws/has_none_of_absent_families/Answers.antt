use Rattle.sq_store.proofs.Taken.{has_none_of-absent}
use Rattle.sq_store.proofs.laws.has_none_of_absent_families.Goals as goal

pub returns : goal.returns
returns c = has_none_of-absent
