use Rattle.std.specs.Prelude.{◌==◌, ◌||◌, not}
use Rattle.std.specs.List.{list_all}
use Rattle.sq_moves.specs.ReconValue.{stage_in}
use Rattle.sq_leader.proofs.Marked.{is_marked-marks_after}
use Rattle.sq_leader.proofs.laws.a_stage_is_over_once_each_segment_of_it_is_reported.Goals as goal

pub returns : goal.returns
returns c recon stage parts told = λ i. list_all (λ segment. not (stage_in recon segment == stage) || is_marked-marks_after parts told segment.dst i) recon.segments
