use Rattle.sq_store.proofs.Between.{get-without}
use Rattle.sq_store.proofs.laws.keeps_what_is_not_between.Goals as goal

pub returns : goal.returns
returns c = get-without
