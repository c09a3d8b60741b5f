use Rattle.std.proofs.Common.{◌∙◌, ◌<◌, length, rules, arith}
use Rattle.std.proofs.lemmas.Bool.Decides.{nat_tests}
use Rattle.std.proofs.lemmas.Grind.{common_steps}
use Rattle.sq_refusals.proofs.Whole.{with_pump}
use Rattle.sq_refusals.proofs.hand_run.HandRun.turn_pump.Goals as goal

pub invariant_of-self-2 : goal.invariant_of-self-2
invariant_of-self-2 g c =
    let run = c.args.self.now in
    let some : 0 < length run.pumps.items = first_of (search rules, grind (arith, common_steps), grind (arith, nat_tests)) in
    record {
      whole = with_pump run.fabric run.nodes.items run.pumps.items 0 c.index_mut.result.now c.turn-turn.new.self run.whole some c.index_mut.ensures.value (c.turn-turn.ensures.seats ∙ c.shared-shared.ensures.trees) c.turn-turn.ensures.work;
    }
