use Rattle.std.proofs.Common.{arith}
use Rattle.sq_refusals.proofs.Whole.{node_at, with_node}
use Rattle.sq_refusals.proofs.hand_run.HandRun.turn.Goals as goal

pub run_steps-steps-requires-clause-node : goal.run_steps-steps-requires-clause-node
run_steps-steps-requires-clause-node g c = node_at c.args.self.now.fabric _ _ c.args.part c.index_mut.result.now c.args.self.now.whole (omega arith) c.index_mut.ensures.value

pub invariant_of-self-2 : goal.invariant_of-self-2
invariant_of-self-2 g c =
    record {
      whole = with_node c.args.self.now.fabric _ _ c.args.part c.index_mut.result.now c.run_steps-steps.new.node c.args.self.now.whole (omega arith) c.index_mut.ensures.value c.run_steps-steps.ensures.of c.run_steps-steps.ensures.part;
    }
