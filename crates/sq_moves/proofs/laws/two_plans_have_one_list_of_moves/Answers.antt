use Rattle.sq_moves.proofs.Runs.{the_moves}
use Rattle.sq_moves.proofs.laws.two_plans_have_one_list_of_moves.Goals as goal

pub returns : goal.returns
returns c = λ old new is_old is_new. the_moves old new is_old is_new
