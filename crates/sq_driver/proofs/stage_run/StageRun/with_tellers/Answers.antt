use Rattle.std.proofs.Common.{List, sym, subst}
use Rattle.sq_node.specs.NodeState.{NodeState}
use Rattle.sq_gather.specs.Gathered.{AreAllOf, InPartOrder}
use Rattle.sq_driver.specs.StageRunValue.{stage_run_of}
use Rattle.sq_driver.proofs.stage_run.StageRun.with_tellers.Goals as goal

pub invariant_of-result : goal.invariant_of-result
invariant_of-result c =
    let parts = c.args.parts in
    let made = c.in_ok-pairs.ensures in (
      subst (λ (nodes : List NodeState). AreAllOf parts.fabric nodes parts.pumps.items) (sym made.nodes) c.requires.all,
      subst InPartOrder (sym made.nodes) c.requires.in_order,
      made.collected,
    )

pub returns : goal.returns
returns c =
    let parts = c.args.parts in
    λ k. stage_run_of parts.fabric (c.in_ok-pairs.ensures.nodes k) parts.pumps.items
