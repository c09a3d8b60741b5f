use Rattle.std.proofs.Common.{refl}
use Rattle.std.specs.Prelude.{Err}
use Rattle.squall.proofs.session.script.Goals as goal

pub returns-then-not-is_saved : goal.returns-then-not-is_saved
returns-then-not-is_saved g c = record { ran = Err (record {}); holds = tt; status_is = refl }
