use Rattle.sq_laws.proofs.TakenFamilies.{read_back}
use Rattle.sq_laws.proofs.read_back.rows_are_read_back.Goals as goal

pub returns : goal.returns
returns c = read_back
