use Rattle.sq_laws.proofs.Kept.{kept_fits, kept_are_read}
use Rattle.sq_laws.proofs.read_back.rows_that_a_run_keeps_are_read_back.Goals as goal

pub returns-clause-fit : goal.returns-clause-fit
returns-clause-fit c = kept_fits

pub returns-clause-read : goal.returns-clause-read
returns-clause-read c = kept_are_read
