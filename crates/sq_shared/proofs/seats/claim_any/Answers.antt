use Rattle.std.proofs.Common.{slice_set}
use Rattle.sq_shared.specs.Walks.{claims_of_search}
use Rattle.sq_shared.specs.Seats.{StepsAt, ClaimsAny}
use Rattle.sq_shared.proofs.Stepped.{steps_at, seats_stay, only_claimed}
use Rattle.sq_shared.proofs.seats.claim_any.Goals as goal

pub returns-clause-steps : goal.returns-clause-steps
returns-clause-steps c =
    let told : ClaimsAny c.args.pull c.claim_any.result c.index_mut.result.now.view c.claim_any.new.seat.view = record { search = c.claim_any.ensures.search; claims = c.claim_any.ensures.claims } in
    steps_at c.args.trees.now c.args.seats.now.items c.args.seg c.index-at.result (ClaimsAny c.args.pull c.claim_any.result) c.index_mut.result.now c.claim_any.new.seat
    c.requires.seats c.requires.segment c.index-at.ensures.place c.index_mut.ensures.value c.claim_any.ensures.seat told

pub returns-clause-seats : goal.returns-clause-seats
returns-clause-seats c =
    seats_stay c.args.trees.now c.args.seg (ClaimsAny c.args.pull c.claim_any.result) c.args.seats.now.items (slice_set c.args.seats.now.items c.index-at.result c.claim_any.new.seat)
    (returns-clause-steps c) c.requires.seats

pub returns-clause-work : goal.returns-clause-work
returns-clause-work c =
    let step : StepsAt c.args.seg (ClaimsAny c.args.pull c.claim_any.result) c.args.seats.now.items (slice_set c.args.seats.now.items c.index-at.result c.claim_any.new.seat) = returns-clause-steps c in
    only_claimed c.args.seg (ClaimsAny c.args.pull c.claim_any.result) c.args.seats.now.items (slice_set c.args.seats.now.items c.index-at.result c.claim_any.new.seat) step (claims_of_search c.args.pull c.claim_any.result) step.told.claims
