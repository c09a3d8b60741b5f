use Rattle.std.proofs.Common.{◌≡◌}
use Rattle.sq_shared.specs.Pump.{stage_round}
use Rattle.sq_shared.proofs.pump.stage_round.Given as goal

abbrev pub invariant-loop-number : goal.invariant-loop-number
invariant-loop-number l = l.round.items ≡ stage_round l.recon l.stage l.number
