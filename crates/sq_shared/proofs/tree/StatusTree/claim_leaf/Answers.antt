use Rattle.std.proofs.Common.{◌-◌, rules, refl, arith}
use Rattle.sq_moves.proofs.Nested.{node_bounds, node_above_covers}
use Rattle.sq_shared.proofs.Walking.{walk_start, walk_next, walk_held, next_live, leaf_live, may_claim}
use Rattle.sq_shared.proofs.tree.StatusTree.claim_leaf.Goals as goal

pub loop-levels-init : goal.loop-levels-init
loop-levels-init c = record { few = omega (arith, node_bounds c.node-own.result c.node-own.ensures.node, c.node-own.ensures.leaf); seat = search rules; walk = walk_start c.args.leaf c.args.seat.now.view }

pub pass-requires-clause-inner : goal.pass-requires-clause-inner
pass-requires-clause-inner c = rw c.node_above-node.ensures ((node_above_covers c.args.leaf c.loop-levels.levels c.loop-levels.invariant.few (omega arith)).inner (omega arith))

pub pass-requires-clause-live : goal.pass-requires-clause-live
pass-requires-clause-live c =
    rw c.node_above-node.ensures (next_live c.args.leaf c.loop-levels.levels c.args.seat.now.view c.loop-levels.seat.view c.loop-levels.invariant.few (omega arith) c.loop-levels.invariant.walk)

pub returns-in-Err-clause-walk : goal.returns-in-Err-clause-walk
returns-in-Err-clause-walk c =
    rw c.node_above-node.ensures
    (walk_held c.args.leaf c.loop-levels.levels c.args.pull c.args.seat.now.view c.loop-levels.seat.view c.pass.new.seat.view c.in-Err.found c.loop-levels.invariant.few (omega arith) c.loop-levels.invariant.walk c.in-Err.ensures.passed.0 (rw c.node_above-node.ensures at c.in-Err.ensures.passed.1))

pub loop-levels-preserved : goal.loop-levels-preserved
loop-levels-preserved c =
    record {
      few = c.loop-levels.invariant.few;
      seat = search rules;
      walk = walk_next c.args.leaf c.loop-levels.levels (c.loop-levels.levels - 1) c.args.seat.now.view c.loop-levels.seat.view c.pass.new.seat.view (omega arith) c.loop-levels.invariant.walk (rw c.node_above-node.ensures at c.in_default.ensures.passed);
    }

pub advance-requires-clause-step : goal.advance-requires-clause-step
advance-requires-clause-step c = (
  refl,
  rw c.node-own.ensures.leaf
      (may_claim c.loop-levels.seat.view _ c.args.pull (search rules) (λ _. leaf_live c.args.leaf c.loop-levels.levels c.args.seat.now.view c.loop-levels.seat.view c.loop-levels.invariant.few c.loop-levels-test.false c.loop-levels.invariant.walk)),
)
