use Rattle.std.proofs.Common.{slice_set}
use Rattle.sq_shared.specs.Walks.{claims_of_walk}
use Rattle.sq_shared.specs.Seats.{StepsAt, ClaimsLeaf}
use Rattle.sq_shared.proofs.Stepped.{steps_at, seats_stay, only_claimed}
use Rattle.sq_shared.proofs.seats.claim_leaf.Goals as goal

pub returns-clause-steps : goal.returns-clause-steps
returns-clause-steps c =
    let told : ClaimsLeaf c.args.leaf c.args.pull c.claim_leaf.result c.index_mut.result.now.view c.claim_leaf.new.seat.view = record { walk = c.claim_leaf.ensures.walk; claims = c.claim_leaf.ensures.claims } in
    steps_at c.args.trees.now c.args.seats.now.items c.args.seg c.index-at.result (ClaimsLeaf c.args.leaf c.args.pull c.claim_leaf.result) c.index_mut.result.now c.claim_leaf.new.seat
    c.requires.seats c.requires.segment c.index-at.ensures.place c.index_mut.ensures.value c.claim_leaf.ensures.seat told

pub returns-clause-seats : goal.returns-clause-seats
returns-clause-seats c =
    seats_stay c.args.trees.now c.args.seg (ClaimsLeaf c.args.leaf c.args.pull c.claim_leaf.result) c.args.seats.now.items (slice_set c.args.seats.now.items c.index-at.result c.claim_leaf.new.seat)
    (returns-clause-steps c) c.requires.seats

pub returns-clause-work : goal.returns-clause-work
returns-clause-work c =
    let step : StepsAt c.args.seg (ClaimsLeaf c.args.leaf c.args.pull c.claim_leaf.result) c.args.seats.now.items (slice_set c.args.seats.now.items c.index-at.result c.claim_leaf.new.seat) = returns-clause-steps c in
    only_claimed c.args.seg (ClaimsLeaf c.args.leaf c.args.pull c.claim_leaf.result) c.args.seats.now.items (slice_set c.args.seats.now.items c.index-at.result c.claim_leaf.new.seat) step (claims_of_walk c.args.pull c.claim_leaf.result) step.told.claims
