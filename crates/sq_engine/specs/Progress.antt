-- The progress of a stage.
use Rattle.std.specs.Prelude.{ℕ, ◌==◌, ◌&&◌, Bool, count_by}
use Rattle.std.specs.List.{enumerate_from}
use Rattle.sq_moves.specs.declared.recon.Range.{Range}
use Rattle.sq_moves.specs.ReconValue.{ReconValue, stage_in}
use Rattle.sq_node_model.specs.Gathered.{GatheredValue}
use Rattle.sq_node_model.specs.Next.{is_complete_in}

-- how many segments move in a stage
abbrev pub stage_segments : ReconValue → ℕ → ℕ
stage_segments recon stage = count_by (λ segment. stage_in recon segment == stage) recon.segments

-- the segment `at.1`, of number `at.0`, moves in the gathered stage, and is complete by its tree
abbrev pub is_complete_in_stage : ReconValue → GatheredValue → ℕ × Range → Bool
is_complete_in_stage recon g at = (stage_in recon at.1 == g.stage) && is_complete_in g at.0

-- how many segments move in the gathered stage and are complete by their trees
abbrev pub complete_segments_in : ReconValue → GatheredValue → ℕ
complete_segments_in recon g = count_by (is_complete_in_stage recon g) (enumerate_from 0 recon.segments)
