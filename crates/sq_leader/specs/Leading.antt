-- The leader of a run in threads: which reports it heard in a stage, and that it moved on to the
-- next stage, or ended the move.
use Rattle.std.specs.Prelude.{◌≡◌, ℕ, ◌+◌, ◌&&◌, Bool, true, IsTrue, nat_lt, List, length, slice_get, Some, Ok}
use Rattle.sq_moves.specs.declared.recon.Range.{Range}
use Rattle.sq_moves.specs.ReconValue.{stage_in, stages, moves_into}
use Rattle.sq_moves.specs.OpeningValue.{OpeningValue}
use Rattle.sq_leader.specs.LeaderValue.{StageValue}
use Rattle.sq_leader.specs.Marks.{none_marked, is_marked}
use Rattle.sq_leader.specs.Segments.{all_marked_complete}
use Rattle.sq_leader.specs.Leader.{answer_to_next, answer_to_finish}
use Rattle.sq_leader.specs.declared.leading.Led.{Led}
use Rattle.sq_leader.specs.declared.leading.Led.TheVariants.{Next, Ended, Missing}

-- the leader of the move of the opening at the start of a stage: no partition has reported
abbrev pub leading : OpeningValue → ℕ → StageValue
leading o stage = record { reported = none_marked o.old.parts; stage = stage; recon = o.recon }

-- the leader leads stage `stage` of the move of the opening
pub record LeadsStage (o : OpeningValue) (stage : ℕ) (at : StageValue) : Type 0 where
  pub recon_is : at.recon ≡ o.recon
  pub stage_is : at.stage ≡ stage

-- exactly those partitions reported whose incoming segments of the stage are all complete
pub record HaveReported (o : OpeningValue) (stage : ℕ) (whole : List Bool) (at : StageValue) : Type 0 where
  pub leads : LeadsStage o stage at
  pub parts : length at.reported ≡ o.old.parts
  pub each : (part : ℕ) → is_marked at.reported part ≡ (nat_lt part o.old.parts && all_marked_complete o.recon stage whole part)

-- partitions reported in the stage, each only if all segments that move into it in this stage are
-- complete
pub record HasHeard (o : OpeningValue) (stage : ℕ) (is_complete : ℕ → Bool) (at : StageValue) : Type 0 where
  pub leads : LeadsStage o stage at
  pub heard : (part seg : ℕ) → IsTrue (is_marked at.reported part) → IsTrue (moves_into o.recon stage part seg) → IsTrue (is_complete seg)

-- the leader moved on to the next stage, for which these reports sufficed
pub record HasGoneOn (o : OpeningValue) (stage : ℕ) (is_complete : ℕ → Bool) (at : StageValue) : Type 0 where
  pub hears : HasHeard o stage is_complete at
  pub next : answer_to_next at ≡ Ok (leading o (stage + 1))

-- the leader ended the move after its last stage, for which these reports sufficed
pub record HasEnded (o : OpeningValue) (stage : ℕ) (is_complete : ℕ → Bool) (at : StageValue) : Type 0 where
  pub hears : HasHeard o stage is_complete at
  pub ended : answer_to_finish at ≡ Ok at

-- each segment of the stage is complete
abbrev pub AreComplete : OpeningValue → ℕ → (ℕ → Bool) → Type 0
AreComplete o stage is_complete =
    (seg : ℕ) (segment : Range) → slice_get o.recon.segments seg ≡ Some segment → stage_in o.recon segment ≡ stage → is_complete seg ≡ true

-- what the leader does after a stage: if each segment of it is complete, it moves on, or after the
-- last stage ends the move
abbrev pub Leads : OpeningValue → ℕ → (ℕ → Bool) → Led → Type 0
Leads o stage is_complete (Next moving) =
    (moving ≡ leading o (stage + 1)) × AreComplete o stage is_complete × (at : StageValue) × HasGoneOn o stage is_complete at
Leads o stage is_complete Ended =
    (stage + 1 ≡ stages o.recon) × AreComplete o stage is_complete × (at : StageValue) × HasEnded o stage is_complete at
Leads o stage is_complete Missing = AreComplete o stage is_complete → ⊥
