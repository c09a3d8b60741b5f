use Rattle.std.proofs.Common.{refl}
use Rattle.sq_node_model.proofs.Members.{set_new}
use Rattle.sq_node.specs.Idle.{FoundUndone}
use Rattle.sq_node.specs.Looks.{OnlyLooked}
use Rattle.sq_node.proofs.Looked.{seats_kept}
use Rattle.sq_shared.proofs.Stepped.{steps_at}
use Rattle.sq_node.proofs.node.turn.read_complete_at.Goals as goal

pub returns-clause-seats : goal.returns-clause-seats
returns-clause-seats c =
    seats_kept c.args.trees.now c.args.seats.now.items c.args.at c.args.at c.index_mut.result.now c.reads_complete.new.seat
    c.requires.seats c.requires.segment refl c.index_mut.ensures.value c.reads_complete.ensures.seat

pub returns-clause-looked : goal.returns-clause-looked
returns-clause-looked c =
    steps_at c.args.trees.now c.args.seats.now.items c.args.at c.args.at OnlyLooked c.index_mut.result.now c.reads_complete.new.seat
    c.requires.seats c.requires.segment refl c.index_mut.ensures.value c.reads_complete.ensures.seat c.reads_complete.ensures.looked

pub returns-clause-complete : goal.returns-clause-complete
returns-clause-complete c = λ reads.
    let step = returns-clause-looked c in
    record {
      seat = c.reads_complete.new.seat;
      there = set_new c.args.seats.now.items c.args.at c.reads_complete.new.seat step.before step.there;
      seen = c.reads_complete.ensures.complete reads;
    }

pub returns-clause-undone : goal.returns-clause-undone
returns-clause-undone c = λ reads.
    steps_at c.args.trees.now c.args.seats.now.items c.args.at c.args.at FoundUndone c.index_mut.result.now c.reads_complete.new.seat
    c.requires.seats c.requires.segment refl c.index_mut.ensures.value c.reads_complete.ensures.seat (c.reads_complete.ensures.undone reads)
