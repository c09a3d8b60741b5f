use Rattle.std.proofs.lemmas.Result.{err_from_is_err_and}
use Rattle.sq_moves.specs.declared.opening.GivenRow.{GivenRow}
use Rattle.sq_moves.specs.Given.{value_of}
use Rattle.sq_text.proofs.HeaderRun.{line_read, none_read}
use Rattle.sq_text.proofs.header.row_line.Goals as goal

pub returns-in_err-next_line-clause-row : goal.returns-in_err-next_line-clause-row
returns-in_err-next_line-clause-row g c = let p = err_from_is_err_and c.from_residual.result c.from_residual.ensures.1 in rw (p.1, p.2) (none_read {X = GivenRow} value_of _ _ _ _ c.in_err-next_line.ensures.line)

pub returns-clause-row : goal.returns-clause-row
returns-clause-row g c = line_read _ _ c.row.result _ _ _ c.in_ok-next_line.ensures.line (rw (← c.piece.ensures) c.row.ensures)
