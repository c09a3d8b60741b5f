-- What is done at an idle node, and what is under way at a busy one.
use Rattle.std.specs.Prelude.{◌≡◌, ◌⊎◌, ℕ, Bool, ◌+◌, ◌<◌, ◌≤◌, ◌==◌, ◌&&◌, ◌||◌, true, false, List, [], ◌++◌, length, slice_get, Some, None, Contains}
use Rattle.sq_moves.specs.declared.status.Status.{Status}
use Rattle.sq_moves.specs.Status.{is_split, is_complete}
use Rattle.sq_shared.specs.declared.view.View.{View}
use Rattle.sq_shared.specs.Seat.{SeatValue}
use Rattle.sq_moves.specs.declared.recon.Range.{Range}
use Rattle.sq_moves.specs.ReconValue.{ReconValue, stages, stage_in}
use Rattle.sq_exec.specs.CoreValue.{CoreValue, out_at, inbox_at, loaded_at}
use Rattle.sq_exec.specs.Runs.{is_whole}
use Rattle.sq_node.specs.FabricValue.{FabricValue}
use Rattle.sq_node.specs.NodeState.{NodeState}
use Rattle.sq_node.specs.Settled.{AllSettled, SawSegmentComplete}
use Rattle.sq_node.specs.Steps.{HasNoneToCut}

-- the segment moves in this stage, and leaves or enters this partition
abbrev pub takes_part : ReconValue → ℕ → ℕ → Range → Bool
takes_part recon stage part segment = ((segment.src == part) || (segment.dst == part)) && (stage_in recon segment == stage)

-- the flag of each segment of the running stage that leaves or enters the partition is set
abbrev pub AreFlagged : ReconValue → ℕ → ℕ → List Bool → Type 0
AreFlagged recon stage part flags =
    (seg : ℕ) (segment : Range) → slice_get recon.segments seg ≡ Some segment → takes_part recon stage part segment ≡ true
    → slice_get flags seg ≡ Some true

-- no chunk has arrived from the other partition or waits to be sent to it, and there is none to cut
-- for it
pub record IsQuiet (core : CoreValue) (other : ℕ) : Type 0 where
  pub inbox : inbox_at core other ≡ None
  pub outbox : (out_at core other).outbox ≡ None
  pub cut : HasNoneToCut core other

-- nothing is under way here, each tree node whose last chunk was loaded is settled, each segment of
-- the running stage that leaves or enters here was found complete, and in the last stage nothing
-- waits
pub record IsIdle (node : NodeState) : Type 0 where
  pub quiet : (other : ℕ) → IsQuiet node.core other
  pub settled : AllSettled node.core node.seats
  pub complete : (seg : ℕ) (segment : Range) → slice_get node.core.recon.segments seg ≡ Some segment
      → takes_part node.core.recon node.core.stage node.core.part segment ≡ true → SawSegmentComplete node.seats seg
  pub waiting : stages node.core.recon ≤ node.core.stage + 1 → node.core.waiting ≡ []

-- the stage is the last one
abbrev pub IsLastStage : FabricValue → Type 0
IsLastStage fabric = stages fabric.recon ≤ fabric.stage + 1

-- since it had the view `v`, the seat found a node that was neither split nor complete
pub record FoundUndone (v w : View) : Type 0 where
  pub looks : List (ℕ × Status)
  pub since : w.looked ≡ looks ++ v.looked
  pub node : ℕ
  pub status : Status
  pub found : Contains looks (node, status)
  pub undone : (is_split status || is_complete status) ≡ false

-- this holds of the seat of segment `seg`
pub record SegmentUndone (old new : List SeatValue) (seg : ℕ) : Type 0 where
  pub before : SeatValue
  pub after : SeatValue
  pub there : slice_get old seg ≡ Some before
  pub then : slice_get new seg ≡ Some after
  pub found : FoundUndone before.view after.view

-- a segment of the running stage that leaves or enters the partition was found undone
pub record SomeUndone (fabric : FabricValue) (part : ℕ) (old new : List SeatValue) : Type 0 where
  pub seg : ℕ
  pub segment : Range
  pub there : slice_get fabric.recon.segments seg ≡ Some segment
  pub takes : takes_part fabric.recon fabric.stage part segment ≡ true
  pub undone : SegmentUndone old new seg

-- a chunk has arrived from some partition, waits to be sent to it or is to be cut for it
abbrev pub IsUnderWay : CoreValue → Type 0
IsUnderWay core = (other : ℕ) × (IsQuiet core other → ⊥)

-- something is under way, the last chunk of a tree node was loaded, or a transaction waits in the
-- last stage
abbrev pub IsAtWork : FabricValue → CoreValue → Type 0
IsAtWork fabric core =
    IsUnderWay core
    ⊎ (((seg : ℕ) × (n : ℕ) × (is_whole (loaded_at core seg) n ≡ true))
    ⊎ (IsLastStage fabric × (0 < length core.waiting)))

-- why a node that looked isn't idle: it is at work, or a segment was found undone
abbrev pub IsBusy : FabricValue → NodeState → NodeState → Type 0
IsBusy fabric old new = IsAtWork fabric old.core ⊎ SomeUndone fabric old.core.part old.seats new.seats
