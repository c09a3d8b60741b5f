use Rattle.std.proofs.Common.{sym}
use Rattle.sq_serving.proofs.Names.{not_text, is_text}
use Rattle.sq_serving.proofs.serve_line.rows_to.Goals as goal

pub returns-in-Ok : goal.returns-in-Ok
returns-in-Ok c =
    let is = c.in-Ok.ensures.cases in
    is_text c.rows_to_file.result c.in-Ok.name.now c.args.name.now is.0 is.1 c.rows_to_file.ensures

pub returns-in-Err : goal.returns-in-Err
returns-in-Err c = sym (not_text c.args.name.now c.in-Err.ensures.cases.0)
