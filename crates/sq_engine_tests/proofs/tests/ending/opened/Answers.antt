use Rattle.std.proofs.Common.{List, [], sym, subst}
use Rattle.sq_shared.specs.Pump.{PumpValue}
use Rattle.sq_node.specs.NodeState.{NodeState}
use Rattle.sq_gather.specs.Gathered.{AreAllOf}
use Rattle.sq_gather.proofs.AllOf.{all_of_opened}
use Rattle.sq_gather.proofs.Lists.{empty}
use Rattle.sq_engine_tests.proofs.tests.ending.opened.Goals as goal

pub returns : goal.returns
returns c =
    let parts = c.in_ok-fabric.field-0 in
    let run = c.in_ok-fabric.ensures.opened in
    subst (λ (nodes : List NodeState). AreAllOf parts.fabric nodes []) (sym c.in_ok-pairs.ensures)
    (subst (λ (pumps : List PumpValue). AreAllOf parts.fabric parts.nodes.items pumps) (empty parts.pumps.items run.each_pump.all)
    (all_of_opened c.args.opening.now 0 parts.fabric parts.nodes.items parts.pumps.items run))
