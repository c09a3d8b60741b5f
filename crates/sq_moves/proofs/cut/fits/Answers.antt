use Rattle.std.proofs.Common.{◌≡◌, ◌<◌, ◌≤◌, [], ◌∷◌, ◌++◌, length, sym, ap, subst, ◌∙◌, arith}
use Rattle.std.proofs.lemmas.Bool.{le-leb, lt-leb}
use Rattle.sq_moves.specs.ReconValue.{segments_of}
use Rattle.sq_moves.specs.Between.{segment_limit}
use Rattle.sq_moves.specs.Moves.{moves_of}
use Rattle.sq_moves.proofs.Cuts.{length-segments_of-append, length-segments_of-push, split_more, split_all}
use Rattle.sq_moves.proofs.Sweeps.{runs_within}
use Rattle.sq_moves.proofs.cut.fits.Goals as goal

pub segment_count-count-requires : goal.segment_count-count-requires
segment_count-count-requires c =
    let ahead = c.loop-run.invariant.ahead in
    let next = c.in-Some.ensures.next ahead.1 ahead.3 in
    let within = runs_within c.loop-run.sweep c.in-Some.run' ahead.1 next.0 ahead.3 next.1 in
    record { width = c.requires; some = within.0; within = within.1 }

pub returns-then-count-limit : goal.returns-then-count-limit
returns-then-count-limit c =
    let width = c.args.width in
    let moves = moves_of c.args.old.now c.args.new.now in
    let ahead = c.loop-run.invariant.ahead in
    let next = c.in-Some.ensures.next ahead.1 ahead.3 in
    let done = ahead.0 ++ c.in-Some.run' ∷ [] in
    let is : moves ≡ done ++ next.0 = split_more moves ahead.0 ahead.1 next.0 c.in-Some.run' ahead.2 next.1 in
    let long = ap (λ ranges. length (segments_of width ranges)) is ∙ length-segments_of-append width done next.0 in
    let more = length-segments_of-push width ahead.0 c.in-Some.run' in
    let over = c.if-count-limit.true in
    let limit = c.segment_limit-limit.ensures.limit ∙ ap segment_limit c.version.ensures in
    sym (lt-leb (length (segments_of width moves)) (segment_limit c.args.new.now.version) (subst (λ n. n < length (segments_of width moves)) limit (omega (arith, long, more, ahead.4, over, c.segment_count-count.ensures.count))))

pub loop-run-preserved : goal.loop-run-preserved
loop-run-preserved c =
    let moves = moves_of c.args.old.now c.args.new.now in
    let ahead = c.loop-run.invariant.ahead in
    let next = c.in-Some.ensures.next ahead.1 ahead.3 in
    let more = length-segments_of-push c.args.width ahead.0 c.in-Some.run' in
    record {
      ahead = (ahead.0 ++ c.in-Some.run' ∷ [], next.0, split_more moves ahead.0 ahead.1 next.0 c.in-Some.run' ahead.2 next.1, next.2, omega (arith, more, ahead.4, c.segment_count-count.ensures.count));
      few = omega (arith, c.if-count-limit.false);
    }

pub returns : goal.returns
returns c =
    let moves = moves_of c.args.old.now c.args.new.now in
    let ahead = c.loop-run.invariant.ahead in
    let none = c.in_default.ensures.next ahead.1 ahead.3 in
    let all = ap (λ ranges. length (segments_of c.args.width ranges)) (split_all moves ahead.0 ahead.1 ahead.2 none) in
    let limit = c.segment_limit-limit.ensures.limit ∙ ap segment_limit c.version.ensures in
    sym (le-leb (length (segments_of c.args.width moves)) (segment_limit c.args.new.now.version) (subst (λ n. length (segments_of c.args.width moves) ≤ n) limit (omega (arith, all, ahead.4, c.loop-run.invariant.few))))
