use Rattle.std.proofs.Common.{◌≡◌, ℕ, ◌<◌}
use Rattle.sq_node.specs.Steps.{HasNoneToReceive}
use Rattle.sq_node.proofs.node.Node.step_recv.Given as goal

-- nothing happened, and there is nothing to receive from any partition so far
abbrev pub invariant-loop-number : goal.invariant-loop-number
invariant-loop-number g l = record { same : l.self ≡ l.initial.self; none : (src : ℕ) → src < l.number → HasNoneToReceive l.initial.self src }
