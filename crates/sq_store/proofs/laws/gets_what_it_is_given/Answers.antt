use Rattle.sq_store.proofs.Given.{get-with_new}
use Rattle.sq_store.proofs.laws.gets_what_it_is_given.Goals as goal

pub returns : goal.returns
returns c = get-with_new
