use Rattle.std.proofs.Common.{◌+◌, List, sym, subst}
use Rattle.std.specs.Prelude.{slice_set}
use Rattle.sq_shared.specs.Seat.{SeatValue}
use Rattle.sq_node.proofs.Shares.{Shares, shared_of, shared_first, shares_more, all_shared}
use Rattle.sq_node.proofs.fabric.workers.share_all.Goals as goal

pub returns-in_err-push-clause-of : goal.returns-in_err-push-clause-of
returns-in_err-push-clause-of c =
    shared_of c.args.trees.now c.args.seats.now.items c.loop-at.seats.items c.loop-at.shared.items c.loop-at.at c.loop-at.invariant c.index-trees-at.result c.index_mut.result.now c.share.new.seat c.share.result
    c.loop-at-test.true c.index-trees-at.is c.index_mut.ensures.value c.share.ensures.tree c.share.ensures.given

pub returns-in_err-push-clause-first : goal.returns-in_err-push-clause-first
returns-in_err-push-clause-first c =
    shared_first c.args.trees.now c.args.seats.now.items c.loop-at.seats.items c.loop-at.shared.items c.loop-at.at c.loop-at.invariant c.index-trees-at.result c.index_mut.result.now c.share.new.seat c.share.result
    c.loop-at-test.true c.index-trees-at.is c.index_mut.ensures.value c.share.ensures.tree c.share.ensures.given

pub loop-at-preserved : goal.loop-at-preserved
loop-at-preserved c =
    subst (λ (own : List SeatValue). Shares c.args.trees.now c.args.seats.now.items (slice_set c.loop-at.seats.items c.loop-at.at c.share.new.seat) own (c.loop-at.at + 1)) (sym c.in_ok-push.ensures.items)
    (shares_more c.args.trees.now c.args.seats.now.items c.loop-at.seats.items c.loop-at.shared.items c.loop-at.at c.loop-at.invariant c.index-trees-at.result c.index_mut.result.now c.share.new.seat c.share.result
    c.loop-at-test.true c.index-trees-at.is c.index_mut.ensures.value c.share.ensures.tree c.share.ensures.given c.share.ensures.fresh)

pub returns-clause-gave : goal.returns-clause-gave
returns-clause-gave c =
    all_shared c.args.trees.now c.args.seats.now.items c.loop-at.seats.items c.loop-at.shared.items c.loop-at.at c.loop-at.invariant c.loop-at-test.false c.requires.of
