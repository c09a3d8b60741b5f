use Rattle.std.proofs.Common.{◌≡◌, replicate}
use Rattle.sq_exec.specs.GivenUp.{none_given_up}
use Rattle.sq_exec.proofs.part_core.open.given_up.Given as goal

abbrev pub invariant-loop-made : goal.invariant-loop-made
invariant-loop-made l = l.given_up.items ≡ replicate l._made none_given_up
