use Rattle.sq_store.proofs.Rising.{differ-within}
use Rattle.sq_store.proofs.Taken.{has_none_of-taken}
use Rattle.sq_store.proofs.laws.has_none_of_what_was_taken.Goals as goal

pub returns-clause-differ : goal.returns-clause-differ
returns-clause-differ c = λ families lo hi within. differ-within lo hi families within

pub returns-clause-absent : goal.returns-clause-absent
returns-clause-absent c = has_none_of-taken
