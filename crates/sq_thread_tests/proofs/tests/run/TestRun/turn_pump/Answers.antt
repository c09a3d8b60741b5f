use Rattle.std.proofs.Common.{◌∙◌, arith}
use Rattle.sq_driver.specs.Told.{nodes_of}
use Rattle.sq_thread_tests.proofs.Whole.{with_pump}
use Rattle.sq_thread_tests.proofs.tests.run.TestRun.turn_pump.Goals as goal

pub invariant_of-self : goal.invariant_of-self
invariant_of-self g c =
    let run = c.args.self.now in
    record {
      whole = with_pump run.fabric (nodes_of run.nodes.items) run.pumps.items c.args.number c.index_mut.result.now c.turn-turn.new.self run.whole (omega arith) c.index_mut.ensures.value (c.turn-turn.ensures.seats ∙ c.shared-shared.ensures.trees) c.turn-turn.ensures.work;
    }
