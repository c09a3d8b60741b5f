use Rattle.sq_laws.proofs.Rows.{just_the_given}
use Rattle.sq_laws.proofs.an_opening_has_just_the_given_rows.Goals as goal

pub returns : goal.returns
returns c = λ tables old new config rows o opens. just_the_given tables old new config rows opens.0 o.table opens.1.table
