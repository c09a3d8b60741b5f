use Rattle.std.specs.Prelude.{◌||◌, length, nat_lt}
use Rattle.std.specs.List.{range_with_len}
use Rattle.sq_moves.specs.ReconValue.{stage_at}
use Rattle.sq_leader.specs.Segments.{is_marked_complete}
use Rattle.sq_live.proofs.Counts.{Counted}
use Rattle.sq_live.proofs.judging.count_complete.Given as goal

abbrev pub invariant-loop-number : goal.invariant-loop-number
invariant-loop-number l = Counted (λ seg. nat_lt (stage_at l.recon seg) l.stage || is_marked_complete l.moved seg) (range_with_len 0 (length l.recon.segments)) l.number l.count
