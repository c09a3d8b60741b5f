use Rattle.std.proofs.Common.{arith, rules}
use Rattle.sq_thread_tests.proofs.Whole.{node_at, with_node}
use Rattle.sq_thread_tests.proofs.tests.run.TestRun.drive.Goals as goal

pub drive-requires : goal.drive-requires
drive-requires g c = (search rules, node_at c.args.self.now.fabric _ _ c.args.part c.index_mut.result.now c.args.self.now.whole (omega arith) c.index_mut.ensures.value)

pub invariant_of-self : goal.invariant_of-self
invariant_of-self g c = record {
  whole = with_node c.args.self.now.fabric _ _ c.args.part c.index_mut.result.now c.drive.new.pair c.args.self.now.whole (omega arith) c.index_mut.ensures.value c.drive.ensures.driven.stays c.drive.ensures.driven.part;
}
