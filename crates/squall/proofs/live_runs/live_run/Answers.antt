use Rattle.std.proofs.Common.{refl}
use Rattle.std.specs.Prelude.{Err}
use Rattle.squall.proofs.live_runs.live_run.Goals as goal

pub returns-then-not-is_told : goal.returns-then-not-is_told
returns-then-not-is_told g c = record { ran = Err (record {}); holds = tt; status_is = refl }
