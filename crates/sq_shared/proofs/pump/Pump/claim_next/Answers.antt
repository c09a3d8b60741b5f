use Rattle.std.proofs.Common.{rules, arith, ◌≡◌, ℕ, ◌<◌, ◌∷◌, ◌++◌, [], drop, refl}
use Rattle.std.proofs.lemmas.Grind.{common_steps}
use Rattle.std.specs.Prelude.{Some, None}
use Rattle.sq_shared.specs.declared.numbers.TheConstants.{MAX_CLAIMS}
use Rattle.sq_shared.specs.Wins.{AddsWin}
use Rattle.sq_shared.specs.Seats.{StepsAt, ClaimsAny}
use Rattle.sq_shared.specs.Pump.{PumpValue, next_asynchronous, WinsNext, SkipsNext}
use Rattle.sq_shared.proofs.Rounds.{IsPump-won, IsPump-skipped}
use Rattle.sq_shared.proofs.pump.Pump.claim_next.Goals as goal

pub invariant_of-self-in_default-claim_any : goal.invariant_of-self-in_default-claim_any
invariant_of-self-in_default-claim_any c =
    let old : PumpValue = record { number = c.self.inside.number; wins = c.self.inside.wins.wins; seats = c.self.inside.seats.items; round = c.self.inside.round.items } in
    let new : PumpValue = record { number = c.self.inside.number; wins = c.reserve.new.self.wins; seats = c.claim_any.new.seats.items; round = c.pop_front.new.self.items } in
    let next : old.round ≡ c.in-Some.seg ∷ new.round = grind (arith, common_steps) in
    let few : old.wins.count < MAX_CLAIMS = grind (arith, common_steps) in
    let seats : StepsAt c.in-Some.seg (ClaimsAny (next_asynchronous old) None) old.seats new.seats = search rules in
    let skips : SkipsNext old new = record { few = few; seg = c.in-Some.seg; next = next; seats = seats; wins = c.reserve.ensures.same; number = refl } in
    IsPump-skipped old new skips c.self.invariant

pub returns-in_default-claim_any-clause-stays : goal.returns-in_default-claim_any-clause-stays
returns-in_default-claim_any-clause-stays c = record { seats = search rules; work = search rules; pump = invariant_of-self-in_default-claim_any c }

pub invariant_of-self-2 : goal.invariant_of-self-2
invariant_of-self-2 c =
    let old : PumpValue = record { number = c.self.inside.number; wins = c.self.inside.wins.wins; seats = c.self.inside.seats.items; round = c.self.inside.round.items } in
    let new : PumpValue = record { number = c.self.inside.number; wins = c.add.new.self.wins; seats = c.claim_any.new.seats.items; round = c.rotate_left.new.self.items } in
    let seg : ℕ = c.in-Some.seg in
    let node : ℕ = c.in-Some-claim_any.node in
    let next : old.round ≡ seg ∷ drop 1 old.round = grind (arith, common_steps) in
    let few : old.wins.count < MAX_CLAIMS = grind (arith, common_steps) in
    let round : new.round ≡ drop 1 old.round ++ seg ∷ [] = grind (arith, common_steps) in
    let seats : StepsAt seg (ClaimsAny (next_asynchronous old) (Some node)) old.seats new.seats = search rules in
    let adds : AddsWin c.args.shared.now.recon.now seg node (next_asynchronous old) old.wins new.wins =
    record { segment = c.new.ensures.0; there = c.new.ensures.1; count = grind (arith, common_steps); pending = grind (arith, common_steps) } in
    let wins : WinsNext c.args.shared.now.recon.now seg node old new =
    record { few = few; rest = drop 1 old.round; next = next; round = round; seats = seats; wins = adds; number = refl } in
    IsPump-won c.args.shared.now.recon.now seg node old new wins c.self.invariant

pub returns-clause-stays : goal.returns-clause-stays
returns-clause-stays c = record { seats = search rules; work = search rules; pump = invariant_of-self-2 c }
