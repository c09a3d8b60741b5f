use Rattle.std.proofs.Common.{List, sym, subst}
use Rattle.sq_node.specs.NodeState.{NodeState}
use Rattle.sq_gather.specs.Gathered.{AreAllOf}
use Rattle.sq_gather.proofs.AllOf.{all_of_opened}
use Rattle.sq_thread_tests.proofs.tests.run.TestRun.of.Goals as goal

pub invariant_of-result : goal.invariant_of-result
invariant_of-result c =
    let parts = c.in_ok-parts.parts in
    record {
      whole = subst (λ (nodes : List NodeState). AreAllOf parts.fabric nodes parts.pumps.items) (sym c.in_ok-nodes.ensures)
          (all_of_opened c.args.opening.now c.args.pumps parts.fabric parts.nodes.items parts.pumps.items c.in_ok-parts.ensures.opened);
    }
