-- The epochs of an engine, one after another.
use Rattle.std.specs.Prelude.{◌≡◌, ℕ, ◌+◌, ◌<◌, ◌⊎◌, true, false, List, [], ◌∷◌, ◌++◌, length}
use Rattle.sq_plan.specs.PlanValue.{PlanValue}
use Rattle.sq_moves.specs.ReconValue.{stages}
use Rattle.sq_moves.specs.Between.{recon_of}
use Rattle.sq_moves.specs.OpeningValue.{OpeningValue, limited}
use Rattle.sq_moves.specs.Opening.{IsOpening}
use Rattle.sq_node_model.specs.NodeValue.{ReceiptValue}
use Rattle.sq_node_model.specs.Gathered.{GatheredValue}
use Rattle.sq_node_model.specs.BeganWith.{BeganWith, first_began}
use Rattle.sq_node_model.specs.Placed.{IsPlaced, GoOn}
use Rattle.sq_node_model.specs.Next.{IsStageDone, next_began, onward_began}
use Rattle.sq_gather.specs.Gathered.{InPartOrder}
use Rattle.sq_gather.specs.Reopened.{IsRunInStage}
use Rattle.sq_engine.specs.Values.{RunValue, AtValue, Running, Between, Changing}

-- what an epoch begins with: the opening in force, and the families and receipts
pub record StartValue : Type 0 where
  pub opening : OpeningValue
  pub began : BeganWith

-- an epoch that has ended: the opening that was in force, and what was gathered
pub record EndedEpoch : Type 0 where
  pub opening : OpeningValue
  pub gathered : GatheredValue

-- the first epoch of an engine
abbrev pub first_start : OpeningValue → StartValue
first_start o = record { opening = o; began = first_began o }

-- the next stage of the move, with what was gathered of the stage before
abbrev pub stage_start : EndedEpoch → StartValue
stage_start last = record { opening = last.opening; began = next_began last.opening last.gathered }

-- the opening of a move to `plan`, with chunks of at most `limit` bytes, that follows the move of `o`:
-- it has the same rows, and else the same sizes
abbrev pub onward_opening : OpeningValue → PlanValue → ℕ → OpeningValue
onward_opening o plan limit =
    limited limit (record o { old = o.new; new = plan; recon = recon_of o.new plan o.config.width })

-- the first stage of a move to `plan`, with what was gathered of the last stage of the move before
abbrev pub move_start : EndedEpoch → PlanValue → ℕ → StartValue
move_start last plan limit =
    record {
      opening = onward_opening last.opening plan limit;
      began = onward_began last.opening last.gathered;
    }

-- the gathered stage is not the last one
abbrev pub HasMoreStages : EndedEpoch → Type 0
HasMoreStages last = last.gathered.stage + 1 < stages last.opening.recon

-- the gathered stage is the last one
abbrev pub IsLastStage : EndedEpoch → Type 0
IsLastStage last = last.gathered.stage + 1 ≡ stages last.opening.recon

-- each segment of the gathered stage is complete
abbrev pub HasDoneStage : EndedEpoch → Type 0
HasDoneStage last = IsStageDone last.opening last.gathered

-- after a stage whose segments are complete, the next stage begins or, after the last stage,
-- another move
abbrev pub Follows : EndedEpoch → StartValue → Type 0
Follows last start =
    HasDoneStage last
    × ((HasMoreStages last × (start ≡ stage_start last))
    ⊎ (IsLastStage last × (plan : PlanValue) × (limit : ℕ) × (start ≡ move_start last plan limit)))

-- an epoch that began with `start` runs: its workers and what they share are a run in its stage,
-- and its nodes are in the order of their partitions
pub record IsRunning (start : StartValue) (opening : OpeningValue) (run : RunValue) : Type 0 where
  pub opening_is : opening ≡ start.opening
  pub stage : IsRunInStage start.opening start.began run.fabric run.nodes run.pumps
  pub order : InPartOrder run.nodes

-- what an epoch that began with `start` left, whatever its threads did: it is placed, each family
-- continues the one that its root key had at the start, and the earlier receipts come before those
-- of the epoch
pub record HasLeft (start : StartValue) (last : EndedEpoch) : Type 0 where
  pub opening : last.opening ≡ start.opening
  pub stage : last.gathered.stage ≡ start.began.stage
  pub placed : IsPlaced start.opening last.gathered
  pub goes_on : GoOn start.began last.gathered
  pub written : List ReceiptValue
  pub receipts : last.gathered.receipts ≡ start.began.receipts ++ written
  pub all_left : length last.gathered.left ≡ start.opening.old.parts

-- an epoch begins with `start` after these epochs, the latest of them first
abbrev pub StartsAfter : OpeningValue → List EndedEpoch → StartValue → Type 0
StartsAfter o [] start = start ≡ first_start o
StartsAfter o (last ∷ earlier) start = Follows last start

-- after the epochs `past` one began, and left `last`
abbrev pub LeftAfter : OpeningValue → List EndedEpoch → EndedEpoch → Type 0
LeftAfter o past last = (start : StartValue) × StartsAfter o past start × HasLeft start last

-- an engine that opened with `o` came through these epochs, the latest of them first
abbrev pub HaveCome : OpeningValue → List EndedEpoch → Type 0
HaveCome o [] = Unit {0}
HaveCome o (last ∷ earlier) = HaveCome o earlier × LeftAfter o earlier last

-- a move with the opening `next` is due after the last stage of the move before
pub record IsDueAfter (last : EndedEpoch) (next : OpeningValue) : Type 0 where
  pub was : IsOpening last.opening
  pub done : HasDoneStage last
  pub end : IsLastStage last
  pub plan : PlanValue
  pub limit : ℕ
  pub opening : next ≡ onward_opening last.opening plan limit

-- an engine that opened with `o` came through the epochs `past`, and is here, with this opening in
-- force
abbrev pub Stands : OpeningValue → List EndedEpoch → OpeningValue → AtValue → Type 0
Stands o past opening (Running run) =
    HaveCome o past × (start : StartValue) × StartsAfter o past start × IsRunning start opening run
Stands o [] opening (Between gathered is_due) = ⊥
Stands o (last ∷ earlier) opening (Between gathered false) =
    HaveCome o (last ∷ earlier) × (last ≡ record { opening = opening; gathered = gathered })
Stands o (last ∷ earlier) opening (Between gathered true) =
    HaveCome o (last ∷ earlier) × (last.gathered ≡ gathered) × IsDueAfter last opening
Stands o past opening Changing = ⊥
