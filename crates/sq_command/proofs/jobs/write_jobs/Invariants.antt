use Rattle.std.proofs.Common.{◌≡◌}
use Rattle.sq_command.proofs.jobs.write_jobs.Given as goal

abbrev pub invariant-loop-id : goal.invariant-loop-id
invariant-loop-id g l = l.keys.roots ≡ l.sizes.roots
