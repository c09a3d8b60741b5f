use Rattle.std.specs.Prelude.{Some, None}
use Rattle.sq_serving.proofs.rows.leave_wanted_rows.Goals as goal

pub returns-in-Ok : goal.returns-in-Ok
returns-in-Ok g c = (Some c.in-Ok.text.items, c.in-Ok.ensures, c.leaves_rows.ensures)

pub returns-in-Err : goal.returns-in-Err
returns-in-Err g c = (None, tt, c.lacks_rows.ensures)
