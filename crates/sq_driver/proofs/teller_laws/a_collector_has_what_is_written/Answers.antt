use Rattle.sq_driver.proofs.Collecting.{collects_all}
use Rattle.sq_driver.proofs.teller_laws.a_collector_has_what_is_written.Goals as goal

pub returns : goal.returns
returns c = collects_all
