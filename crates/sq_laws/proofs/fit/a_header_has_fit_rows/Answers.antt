use Rattle.sq_laws.proofs.FitHeaders.{header_rows_fit}
use Rattle.sq_laws.proofs.fit.a_header_has_fit_rows.Goals as goal

pub returns : goal.returns
returns c = header_rows_fit
