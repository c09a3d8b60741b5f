-- The stages of a move, in the terms of a plan.
use Rattle.std.specs.Prelude.{◌≡◌, ◌<◌, ℕ, true, false, length}
use Rattle.sq_moves.specs.ReconValue.{ReconValue, is_link, stage_on, stages}

-- rows go from the one partition to the other in this stage
pub record GoIn (recon : ReconValue) (src dst i : ℕ) : Type 0 where
  pub linked : is_link recon.ranges src dst ≡ true
  pub stage : stage_on recon src dst ≡ i

-- the stages of a move, numbered from 0
pub record DivideTheMove (recon : ReconValue) : Type 0 where
  -- all that goes from one partition to another goes in one of them
  pub below : (src dst : ℕ) → is_link recon.ranges src dst ≡ true → stage_on recon src dst < stages recon
  -- with "auto" a partition gives rows to at most one other in a stage
  pub one_each : recon.auto ≡ true → (src dst other i : ℕ) → GoIn recon src dst i → GoIn recon src other i → dst ≡ other
  -- rows go in each of them, if any go at all
  pub none_empty : 0 < length recon.ranges → (i : ℕ) → i < stages recon → (src dst : ℕ) × GoIn recon src dst i
  -- without "auto" all rows go at once
  pub at_once : recon.auto ≡ false → stages recon ≡ 1
