use Rattle.std.proofs.Common.{ap, ◌∙◌}
use Rattle.sq_node.specs.NodeState.{NodeState}
use Rattle.sq_thread_tests.proofs.tests.run.turn_once.Goals as goal

pub returns-clause-part : goal.returns-clause-part
returns-clause-part g c = c.make_steps.ensures.part ∙ ap (λ (node : NodeState). node.core.part) c.send_pending.ensures
