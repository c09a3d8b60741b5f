use Rattle.std.proofs.Common.{◌≡◌, ℕ, ◌<◌}
use Rattle.sq_node.specs.Steps.{HasNoneToSend}
use Rattle.sq_node.proofs.node.Node.step_send.Given as goal

-- nothing happened, and there is nothing to send to any partition so far
abbrev pub invariant-loop-number : goal.invariant-loop-number
invariant-loop-number g l = record { same : l.self ≡ l.initial.self; none : (dst : ℕ) → dst < l.number → HasNoneToSend l.fabric l.initial.self dst }
