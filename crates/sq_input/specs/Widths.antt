-- The widths of a leaf with which a move between two plans is possible, and why it isn't with
-- another.
use Rattle.std.specs.Prelude.{◌≡◌, ◌≢◌, ℕ, ◌≤◌, length, None}
use Rattle.sq_plan.specs.PlanValue.{PlanValue}
use Rattle.sq_moves.specs.ReconValue.{segments_of}
use Rattle.sq_moves.specs.Moves.{moves_of}
use Rattle.sq_moves.specs.Between.{segment_limit, recon_fault}
use Rattle.sq_input.specs.declared.widths.SegmentFlaw.{SegmentFlaw}
use Rattle.sq_input.specs.declared.widths.SegmentFlaw.TheVariants.{Narrow, Large}

-- no move between two plans is possible, whatever the width of a leaf
abbrev pub HasNoWidth : PlanValue → PlanValue → Type 0
HasNoWidth old new = (width : ℕ) → recon_fault old new width ≢ None

-- a move is possible with leaves of this width, and with no narrower ones
pub record IsLeastWidth (old new : PlanValue) (width : ℕ) : Type 0 where
  pub does : recon_fault old new width ≡ None
  pub least : (other : ℕ) → recon_fault old new other ≡ None → width ≤ other

-- how many segments a move with leaves of this width has, and how many it may have
abbrev pub AreCounted : PlanValue → PlanValue → ℕ → ℕ → ℕ → Type 0
AreCounted old new width segments limit =
    (segments ≡ length (segments_of width (moves_of old new))) × (limit ≡ segment_limit new.version)

-- why a move with leaves of this width has too many segments
abbrev pub IsSegmentFlaw : PlanValue → PlanValue → ℕ → SegmentFlaw → Type 0
IsSegmentFlaw old new width (Narrow segments limit least) =
    AreCounted old new width segments limit × IsLeastWidth old new least
IsSegmentFlaw old new width (Large segments limit) = AreCounted old new width segments limit × HasNoWidth old new
