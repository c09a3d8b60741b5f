use Rattle.std.proofs.Common.{◌≡◌, ℕ, ◌<◌, false}
use Rattle.sq_exec.specs.CoreValue.{out_at}
use Rattle.sq_exec.specs.OutLink.{may_cut}
use Rattle.sq_node.proofs.node.Node.next_cut.Given as goal

-- for no partition so far a chunk can be cut
abbrev pub invariant-loop-number : goal.invariant-loop-number
invariant-loop-number l = (dst : ℕ) → dst < l.number → may_cut (out_at l.self-inside.core.core dst) ≡ false
