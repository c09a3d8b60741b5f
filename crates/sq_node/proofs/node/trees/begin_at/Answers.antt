use Rattle.std.proofs.Common.{sym, subst}
use Rattle.std.specs.Prelude.{Bool, MatchBool}
use Rattle.sq_moves.specs.declared.status.Status.TheVariants.{Partial}
use Rattle.sq_shared.specs.Plays.{Won}
use Rattle.sq_node.specs.Looks.{OnlyLooked}
use Rattle.sq_node.proofs.Looked.{matched_at, seats_kept, begun_or_not}
use Rattle.sq_node.proofs.node.trees.begin_at.Goals as goal

pub returns-clause-seats : goal.returns-clause-seats
returns-clause-seats c =
    seats_kept c.args.trees.now c.args.seats.now.items c.args.at.now.seg c.index-index.result c.index_mut.result.now c.begin.new.seat
    c.requires.seats c.requires.segment c.index-index.ensures.place c.index_mut.ensures.value c.begin.ensures.seat

pub returns-clause-step : goal.returns-clause-step
returns-clause-step c =
    let v = c.index_mut.result.now.view in
    let w = c.begin.new.seat.view in
    let n = c.args.at.now.node in
    let pull = c.args.pull in
    matched_at c.args.trees.now c.args.seats.now.items c.args.at.now.seg c.index-index.result (λ v w. Won v n (Partial pull) w) OnlyLooked c.index_mut.result.now c.begin.new.seat
    c.requires.seats c.requires.segment c.index-index.ensures.place c.index_mut.ensures.value c.begin.ensures.seat c.is_ok.result
    (subst (λ (b : Bool). MatchBool b (Won v n (Partial pull) w) (OnlyLooked v w)) (sym c.is_ok.ensures.value) (begun_or_not v w n pull c.begin.result c.begin.ensures.begin))
