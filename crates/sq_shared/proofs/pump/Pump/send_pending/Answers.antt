use Rattle.std.proofs.Common.{refl}
use Rattle.sq_shared.specs.Pump.{PumpValue, OnlySends}
use Rattle.sq_shared.proofs.Rounds.{IsPump-sent}
use Rattle.sq_shared.proofs.pump.Pump.send_pending.Goals as goal

pub invariant_of-self : goal.invariant_of-self
invariant_of-self g c =
    let old : PumpValue = record { number = c.self.inside.number; wins = c.self.inside.wins.wins; seats = c.self.inside.seats.items; round = c.self.inside.round.items } in
    let new : PumpValue = record old { wins = c.send.new.self.wins } in
    let sends : OnlySends old new =
    record { number = refl; round = refl; seats = refl; wins = record { count = c.send.ensures.count; left = c.send.ensures.left } } in
    IsPump-sent old new sends c.self.invariant
