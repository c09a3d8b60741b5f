use Rattle.sq_store.proofs.Folds.{get-folded}
use Rattle.sq_store.proofs.laws.folds_each_family.Goals as goal

pub returns : goal.returns
returns c = λ store root. get-folded store root
