use Rattle.std.proofs.Common.{sym, ◌∙◌, ◌-◌, arith}
use Rattle.sq_moves.specs.ReconValue.{segment_width}
use Rattle.sq_moves.proofs.Cuts.{count_is}
use Rattle.sq_moves.proofs.Segments.{width_bounds}
use Rattle.sq_moves.proofs.cut.segment_count.Goals as goal

pub returns-clause-count : goal.returns-clause-count
returns-clause-count c =
    let range = c.args.range.now in
    let bounds = width_bounds c.args.width c.requires.width in
    c.div_ceil.ensures ∙ sym (count_is (range.hi - range.lo) (segment_width c.args.width) (omega arith))
