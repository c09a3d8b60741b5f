use Rattle.std.proofs.lemmas.Result.{err_from_is_err_and}
use Rattle.sq_moves.specs.declared.opening.Config.{Config}
use Rattle.sq_text.proofs.HeaderRun.{line_read, none_read, of_read}
use Rattle.sq_text.proofs.header.config_line.Goals as goal

pub returns-in_err-next_line-clause-config : goal.returns-in_err-next_line-clause-config
returns-in_err-next_line-clause-config g c = let p = err_from_is_err_and c.from_residual.result c.from_residual.ensures.1 in rw (p.1, p.2) (none_read {X = Config} (λ x. x) _ _ _ _ c.in_err-next_line.ensures.line)

pub returns-clause-config : goal.returns-clause-config
returns-clause-config g c = line_read _ _ c.sizes.result _ _ _ c.in_ok-next_line.ensures.line (rw (← c.piece.ensures) (of_read _ c.sizes.result _ c.sizes.ensures))
