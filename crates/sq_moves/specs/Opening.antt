-- What an opening is: two plans, what moves between them, and sizes within their limits.
use Rattle.std.specs.Prelude.{◌≡◌, ◌≤◌, length}
use Rattle.sq_plan.specs.PlanValue.{IsPlan}
use Rattle.sq_moves.specs.declared.recon.TheConstants.{MAX_WIDTH}
use Rattle.sq_moves.specs.declared.segment.TheConstants.{SEGMENT_LIMIT}
use Rattle.sq_moves.specs.declared.opening.TheConstants.{MIN_LIMIT, MAX_CAPACITY}
use Rattle.sq_moves.specs.ReconValue.{segments_of}
use Rattle.sq_moves.specs.Moves.{AreMoves}
use Rattle.sq_moves.specs.OpeningValue.{OpeningValue}

pub record IsOpening (o : OpeningValue) : Type 0 where
  pub old_plan : IsPlan o.old
  pub new_plan : IsPlan o.new
  pub parts : o.new.parts ≡ o.old.parts
  pub moves : AreMoves o.old o.new o.recon.ranges
  pub segments : o.recon.segments ≡ segments_of o.recon.width o.recon.ranges
  pub few_segments : length o.recon.segments ≤ SEGMENT_LIMIT
  pub some_width : 1 ≤ o.recon.width
  pub small_width : o.recon.width ≤ MAX_WIDTH
  pub some_limit : MIN_LIMIT ≤ o.config.limit
  pub some_capacity : 1 ≤ o.config.capacity
  pub small_capacity : o.config.capacity ≤ MAX_CAPACITY
