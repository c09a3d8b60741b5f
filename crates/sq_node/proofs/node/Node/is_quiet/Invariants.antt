use Rattle.std.proofs.Common.{ℕ, ◌<◌}
use Rattle.sq_node.specs.Idle.{IsQuiet}
use Rattle.sq_node.proofs.node.Node.is_quiet.Given as goal

-- nothing is under way to or from any partition so far
abbrev pub invariant-loop-number : goal.invariant-loop-number
invariant-loop-number l = (other : ℕ) → other < l.number → IsQuiet l.self.core other
