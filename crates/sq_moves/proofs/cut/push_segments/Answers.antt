use Rattle.std.proofs.Common.{◌++◌, ◌∷◌, [], ap, ◌∙◌, sym, arith, map, append_assoc}
use Rattle.std.specs.List.{range_with_len}
use Rattle.std.proofs.lemmas.List.FromFn.{map-range_with_len_more}
use Rattle.sq_moves.specs.ReconValue.{segment_at}
use Rattle.sq_moves.proofs.cut.push_segments.Goals as goal

pub loop-i-preserved : goal.loop-i-preserved
loop-i-preserved c =
    let at = segment_at c.args.width c.args.range.now in
    let i = c.loop-i.i in
    let before = c.args.segments.now.items in
    c.in_ok-push.ensures.items
    ∙ ap (λ xs. xs ++ c.segment_at.result ∷ []) c.loop-i.invariant
    ∙ ap (λ x. (before ++ map at (range_with_len 0 i)) ++ x ∷ []) c.segment_at.ensures
    ∙ append_assoc before (map at (range_with_len 0 i)) (at i ∷ [])
    ∙ ap (λ xs. before ++ xs) (sym (map-range_with_len_more at 0 i i (omega arith)))
