use Rattle.sq_laws.proofs.Headers.{rows_of_lines}
use Rattle.sq_laws.proofs.a_header_has_just_the_rows_of_its_lines.Goals as goal

pub returns : goal.returns
returns c = rows_of_lines
