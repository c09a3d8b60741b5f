use Rattle.sq_store.proofs.Searches.{found_place}
use Rattle.sq_store.proofs.search.run_of.Goals as goal

pub returns-clause-some : goal.returns-clause-some
returns-clause-some c = found_place c.args.runs.now c.args.root c.number.result c.below.result c.checked_sub.result c.number.ensures.number c.number.ensures.bound c.below.ensures c.checked_sub.ensures
