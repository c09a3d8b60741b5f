use Rattle.sq_store.proofs.Taken.{with-taken}
use Rattle.sq_store.proofs.laws.is_the_same_with_what_was_taken.Goals as goal

pub returns : goal.returns
returns c = with-taken
