use Rattle.std.proofs.Common.{◌≡◌, None, replicate}
use Rattle.sq_exec.proofs.part_core.open.inboxes.Given as goal

abbrev pub invariant-loop-made : goal.invariant-loop-made
invariant-loop-made l = l.inboxes.items ≡ replicate l._made None
