use Rattle.sq_examples.specs.Moves.{LeadsWithRow}
use Rattle.sq_examples.proofs.world.move_one_root.Given as goal

abbrev pub invariant-loop-step : goal.invariant-loop-step
invariant-loop-step l = LeadsWithRow l.fn.number l.world
