-- The leader in each of its states, and the value of a report.
use Rattle.std.specs.Prelude.{ℕ, Bool, List}
use Rattle.sq_moves.specs.ReconValue.{ReconValue}

-- a leader before any partition has prepared: how many partitions there are, and what is to move
-- between them
pub record IdleValue : Type 0 where
  pub parts : ℕ
  pub recon : ReconValue

-- a leader after a partition has prepared: for each partition whether it has prepared, and what is
-- to move
pub record PreparingValue : Type 0 where
  pub prepared : List Bool
  pub recon : ReconValue

-- a leader of a move that has started: for each partition whether it has reported in the running
-- stage, which stage that is, and what moves; once the move has ended, the last stage as it was
pub record StageValue : Type 0 where
  pub reported : List Bool
  pub stage : ℕ
  pub recon : ReconValue

-- a report: the partition that makes it, and the stage whose segments are whole there
pub record ReportValue : Type 0 where
  pub part : ℕ
  pub stage : ℕ
