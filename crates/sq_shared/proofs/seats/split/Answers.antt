use Rattle.std.proofs.Common.{slice_set, []}
use Rattle.sq_shared.specs.Seats.{StepsAt, TriesSplit}
use Rattle.sq_shared.proofs.Splitting.{tries_split}
use Rattle.sq_shared.proofs.Stepped.{steps_at, seats_stay, only_claimed}
use Rattle.sq_shared.proofs.seats.split.Goals as goal

pub returns-clause-steps : goal.returns-clause-steps
returns-clause-steps c =
    let told : TriesSplit c.args.node c.index_mut.result.now.view c.split.new.seat.view =
    tries_split c.args.node c.index_mut.result.now.view c.split.new.seat.view c.split.result c.split.ensures.split in
    steps_at c.args.trees.now c.args.seats.now.items c.args.seg c.index-at.result (TriesSplit c.args.node) c.index_mut.result.now c.split.new.seat
    c.requires.seats c.requires.segment c.index-at.ensures.place c.index_mut.ensures.value c.split.ensures.seat told

pub returns-clause-seats : goal.returns-clause-seats
returns-clause-seats c =
    seats_stay c.args.trees.now c.args.seg (TriesSplit c.args.node) c.args.seats.now.items (slice_set c.args.seats.now.items c.index-at.result c.split.new.seat)
    (returns-clause-steps c) c.requires.seats

pub returns-clause-work : goal.returns-clause-work
returns-clause-work c =
    let step : StepsAt c.args.seg (TriesSplit c.args.node) c.args.seats.now.items (slice_set c.args.seats.now.items c.index-at.result c.split.new.seat) = returns-clause-steps c in
    only_claimed c.args.seg (TriesSplit c.args.node) c.args.seats.now.items (slice_set c.args.seats.now.items c.index-at.result c.split.new.seat) step [] step.told.claims
