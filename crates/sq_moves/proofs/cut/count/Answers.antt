use Rattle.std.proofs.Common.{◌≡◌, [], ◌∷◌, ◌++◌, length, ap, ◌∙◌, arith}
use Rattle.sq_moves.specs.ReconValue.{segments_of}
use Rattle.sq_moves.specs.Moves.{moves_of}
use Rattle.sq_moves.proofs.Cuts.{length-segments_of-push, split_more, split_all}
use Rattle.sq_moves.proofs.Sweeps.{runs_within}
use Rattle.sq_moves.proofs.cut.count.Goals as goal

pub segment_count-requires : goal.segment_count-requires
segment_count-requires c =
    let ahead = c.loop-run.invariant in
    let next = c.in-Some.ensures.next ahead.1 ahead.3 in
    let within = runs_within c.loop-run.sweep c.in-Some.run' ahead.1 next.0 ahead.3 next.1 in
    record { width = c.requires; some = within.0; within = within.1 }

pub loop-run-preserved : goal.loop-run-preserved
loop-run-preserved c =
    let moves = moves_of c.args.old.now c.args.new.now in
    let ahead = c.loop-run.invariant in
    let next = c.in-Some.ensures.next ahead.1 ahead.3 in
    let more = length-segments_of-push c.args.width ahead.0 c.in-Some.run' in
    (ahead.0 ++ c.in-Some.run' ∷ [], next.0, split_more moves ahead.0 ahead.1 next.0 c.in-Some.run' ahead.2 next.1, next.2, omega (arith, more, ahead.4, c.segment_count.ensures.count, c.in_ok-count))

pub returns : goal.returns
returns c =
    let moves = moves_of c.args.old.now c.args.new.now in
    let ahead = c.loop-run.invariant in
    let none = c.in_default.ensures.next ahead.1 ahead.3 in
    let all = ap (λ ranges. length (segments_of c.args.width ranges)) (split_all moves ahead.0 ahead.1 ahead.2 none) in
    ahead.4 ∙ all
