use Rattle.std.proofs.Common.{◌++◌, ap, ◌∙◌, sym}
use Rattle.sq_moves.specs.Moves.{moves_of}
use Rattle.sq_moves.proofs.Cuts.{split_more, split_all}
use Rattle.sq_moves.proofs.cut.moves.Goals as goal

pub loop-run-preserved : goal.loop-run-preserved
loop-run-preserved c =
    let ahead = c.loop-run.invariant in
    let next = c.in-Some.ensures.next ahead.0 ahead.2 in
    (next.0, split_more (moves_of c.args.old.now c.args.new.now) c.loop-run.moves.items ahead.0 next.0 c.in-Some.run' ahead.1 next.1 ∙ ap (λ xs. xs ++ next.0) (sym c.in_ok-push.ensures.items), next.2)

pub returns-clause-moves : goal.returns-clause-moves
returns-clause-moves c =
    let ahead = c.loop-run.invariant in
    split_all (moves_of c.args.old.now c.args.new.now) c.loop-run.moves.items ahead.0 ahead.1 (c.in_default.ensures.next ahead.0 ahead.2)
