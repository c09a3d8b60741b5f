use Rattle.std.proofs.Common.{arith}
use Rattle.sq_thread_tests.proofs.Whole.{node_at, with_node}
use Rattle.sq_thread_tests.proofs.tests.run.TestRun.steps.Goals as goal

pub make_steps-requires : goal.make_steps-requires
make_steps-requires g c = node_at c.args.self.now.fabric _ _ c.args.part c.index_mut.result.now c.args.self.now.whole (omega arith) c.index_mut.ensures.value

pub invariant_of-self : goal.invariant_of-self
invariant_of-self g c =
    record {
      whole = with_node c.args.self.now.fabric _ _ c.args.part c.index_mut.result.now c.make_steps.new.pair c.args.self.now.whole (omega arith) c.index_mut.ensures.value c.make_steps.ensures.of c.make_steps.ensures.part;
    }
