use Rattle.std.proofs.Common.{rules, ◌≡◌}
use Rattle.std.proofs.Common.{subst, sym}
use Rattle.sq_shared.specs.Pump.{PumpValue, new_pump, IsPump}
use Rattle.sq_shared.proofs.Rounds.{IsPump-new}
use Rattle.sq_shared.proofs.pump.Pump.new.Goals as goal

pub invariant_of-result : goal.invariant_of-result
invariant_of-result c =
    let new : PumpValue = record { number = c.args.number; wins = c.new.result.wins; seats = c.args.seats.items; round = c.in-Ok.round.items } in
    let same : new ≡ new_pump c.args.recon.now c.args.stage c.args.number c.args.seats.items = search rules in
    subst IsPump (sym same) (IsPump-new c.args.recon.now c.args.stage c.args.number c.args.seats.items c.requires.number c.requires.seats)
