use Rattle.std.proofs.Common.{◌≡◌, List, sym, subst}
use Rattle.sq_node.specs.NodeState.{NodeState}
use Rattle.sq_driver.specs.Told.{nodes_of}
use Rattle.sq_gather.specs.Gathered.{AreAllOf}
use Rattle.sq_thread_tests.proofs.tests.run.TestRun.gathered.Goals as goal

pub gather-outcome-requires : goal.gather-outcome-requires
gather-outcome-requires g c =
    let run = c.args.self in
    let same : c.expect-nodes.result.items ≡ nodes_of run.nodes.items = rw c.expect-nodes.ensures at c.take_told.ensures in
    subst (λ (nodes : List NodeState). AreAllOf run.fabric nodes run.pumps.items) (sym same) run.whole
