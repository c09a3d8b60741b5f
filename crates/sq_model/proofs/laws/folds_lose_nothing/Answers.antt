-- The law is the theorem on what families keep.
use Rattle.sq_model.proofs.Tables.{folded, rows_now}
use Rattle.sq_model.proofs.laws.folds_lose_nothing.Goals as goal

pub returns-clause-folded : goal.returns-clause-folded
returns-clause-folded c = λ o t root. folded o t root

pub returns-clause-rows : goal.returns-clause-rows
returns-clause-rows c = λ o t root. rows_now o t root
