-- The reconfiguration between two plans, and why there is none.
use Rattle.std.specs.Prelude.{◌≡◌, ℕ, ◌==◌, ◌≤◌, not, nat_lt, if◌then◌else◌, length, Option, Some, None}
use Rattle.sq_plan.specs.declared.version.Version.{Version}
use Rattle.sq_plan.specs.declared.version.Version.TheVariants.{First, Second}
use Rattle.sq_plan.specs.Version.{is_auto}
use Rattle.sq_plan.specs.PlanValue.{PlanValue}
use Rattle.sq_moves.specs.declared.opening_fault.ReconFault.{ReconFault}
use Rattle.sq_moves.specs.declared.opening_fault.ReconFault.TheVariants.{PartitionsDiffer, Width, TooManySegments}
use Rattle.sq_moves.specs.declared.segment.TheConstants.{SEGMENT_LIMIT, FIRST_SEGMENT_LIMIT}
use Rattle.sq_moves.specs.ReconValue.{ReconValue, IsRecon, segments_of, is_width}
use Rattle.sq_moves.specs.Moves.{moves_of, AreMoves}

-- the most segments of a move to a plan of this version
abbrev pub segment_limit : Version → ℕ
segment_limit First = FIRST_SEGMENT_LIMIT
segment_limit (Second stages) = SEGMENT_LIMIT

-- the first cause for which there is no reconfiguration between two plans with leaves of this width
abbrev pub recon_fault : PlanValue → PlanValue → ℕ → Option ReconFault
recon_fault old new width =
    if not (old.parts == new.parts) then Some PartitionsDiffer
    else if not (is_width width) then Some Width
    else if nat_lt (segment_limit new.version) (length (segments_of width (moves_of old new))) then Some TooManySegments
    else None

abbrev pub recon_of : PlanValue → PlanValue → ℕ → ReconValue
recon_of old new width =
    record { width = width; ranges = moves_of old new; segments = segments_of width (moves_of old new); auto = is_auto new.version }

-- this is the reconfiguration between two plans
pub record IsReconOf (old new : PlanValue) (width : ℕ) (recon : ReconValue) : Type 0 where
  pub moves : AreMoves old new recon.ranges
  pub leaf : recon.width ≡ width
  pub whole : IsRecon recon
  pub few : length recon.segments ≤ segment_limit new.version
  pub staged : recon.auto ≡ is_auto new.version
