use Rattle.std.proofs.Common.{◌≡◌, length}
use Rattle.sq_node.proofs.fabric.open.queues.Given as goal

abbrev pub invariant-loop-part : goal.invariant-loop-part
invariant-loop-part g l = length l.queues.items ≡ l._part
