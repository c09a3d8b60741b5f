use Rattle.sq_driver.proofs.Told.{told_grows}
use Rattle.sq_driver.proofs.laws.what_is_told_is_what_is_written.Goals as goal

pub returns : goal.returns
returns g c = told_grows g.T.Teller.Tells
