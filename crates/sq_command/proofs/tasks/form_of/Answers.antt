use Rattle.std.proofs.Common.{refl}
use Rattle.sq_command.proofs.tasks.form_of.Goals as goal

pub returns-in-true-true : goal.returns-in-true-true
returns-in-true-true c = (refl, c.in-true-true.ensures, c.in-true-true.ensures')
