use Rattle.std.proofs.lemmas.Result.{err_from_is_err_and}
use Rattle.sq_text.proofs.HeaderRun.{no_plans, header_fits, header_refused}
use Rattle.sq_text.proofs.header.read_header.Goals as goal

pub returns-in_err-opening-clause-header : goal.returns-in_err-opening-clause-header
returns-in_err-opening-clause-header g c = let p = err_from_is_err_and c.from_residual.result c.from_residual.ensures.1 in rw (p.1, p.2) (no_plans c.args.schema _ _ _ c.in_err-opening.ensures.plans)

pub returns-in_err-take_rows-clause-header : goal.returns-in_err-take_rows-clause-header
returns-in_err-take_rows-clause-header g c =
    let p = err_from_is_err_and c.from_residual-in_err-take_rows.result c.from_residual-in_err-take_rows.ensures.1 in
    rw (p.1, p.2) (header_refused c.args.schema _ _ _ _ c.in_ok-opening.ensures.plans _ c.in_err-take_rows.ensures.rows)

pub returns-clause-header : goal.returns-clause-header
returns-clause-header g c = header_fits c.args.schema _ _ _ _ c.in_ok-opening.ensures.plans _ c.in_ok-take_rows.ensures.kept c.in_ok-take_rows.ensures.rows
