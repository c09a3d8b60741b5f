use Rattle.std.proofs.Common.{arith}
use Rattle.sq_thread_tests.proofs.Whole.{node_at, with_node}
use Rattle.sq_thread_tests.proofs.tests.run.TestRun.turn.Goals as goal

pub turn_once-requires : goal.turn_once-requires
turn_once-requires g c = node_at c.args.self.now.fabric _ _ c.args.part c.index_mut.result.now c.args.self.now.whole (omega arith) c.index_mut.ensures.value

pub invariant_of-self : goal.invariant_of-self
invariant_of-self g c =
    record {
      whole = with_node c.args.self.now.fabric _ _ c.args.part c.index_mut.result.now c.turn_once.new.pair c.args.self.now.whole (omega arith) c.index_mut.ensures.value c.turn_once.ensures.of c.turn_once.ensures.part;
    }
