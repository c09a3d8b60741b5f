use Rattle.std.proofs.Common.{refl, length, arith}
use Rattle.std.proofs.lemmas.Option.{slice_get_read}
use Rattle.sq_schema.specs.declared.root.TheConstants.{ROOT_END}
use Rattle.sq_moves.proofs.Rows.{row_at}
use Rattle.sq_moves.proofs.Cuts.{Moves, row_from_rising}
use Rattle.sq_moves.proofs.cut.segments.Goals as goal

pub push_segments-requires : goal.push_segments-requires
push_segments-requires c =
    let ranges = c.args.ranges.now in
    let at = slice_get_read ranges (length ranges) c.loop-range.range-index c.range-item.result refl (omega arith) c.range-item.is in
    let stands = row_at Moves 0 ROOT_END ranges c.loop-range.range-index c.range-item.result (row_from_rising 0 ranges (omega arith) c.requires.rising) at in
    record { width = c.requires.width; some = stands.some; within = stands.high }
