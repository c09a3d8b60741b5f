-- Live runs: what is written for an input.
use Rattle.std.specs.Prelude.{◌≡◌, ◌≢◌, ◌⊎◌, ℕ, Bool, List, [], Option, Ok, Err}
use Rattle.std.specs.Io.KnownBytes.{Appends}
use Rattle.sq_moves.specs.OpeningValue.{OpeningValue}
use Rattle.sq_moves.specs.Opening.{IsOpening}
use Rattle.sq_text.specs.Pieces.{PieceValue}
use Rattle.sq_text.specs.Coming.{LinesValue, CanCome}
use Rattle.sq_text.specs.Given.{IsGiven}
use Rattle.sq_text.specs.declared.located.LocatedFault.{LocatedFault}
use Rattle.sq_text.specs.Header.{header_of, Opens}
use Rattle.sq_text.specs.Texts.{fault_line}
use Rattle.sq_node_model.specs.Gathered.{GatheredValue}
use Rattle.sq_node_model.specs.BeganWith.{BeganWith}
use Rattle.sq_audit.specs.declared.job.Job.{Job}
use Rattle.sq_audit.specs.Answers.{IdsDiffer}
use Rattle.sq_live.specs.declared.fault.LiveFault.{LiveFault}
use Rattle.sq_live.specs.declared.fault.LiveFault.TheVariants.{Input, Threads}
use Rattle.sq_live.specs.declared.outcome.LiveOutcome.{LiveOutcome}
use Rattle.sq_live.specs.declared.ending.LiveEnding.{LiveEnding}
use Rattle.sq_live.specs.declared.ending.LiveEnding.TheVariants.{Done, Fault}
use Rattle.sq_live.specs.Faults.{live_fault_number, out_of_memory}
use Rattle.sq_live.specs.JobLines.{jobs_in}
use Rattle.sq_live.specs.Account.{AccountValue}
use Rattle.sq_live.specs.Outcome.{outcome_line, outcome_status, CameTo}
use Rattle.sq_driver.specs.StageRunValue.{RanFrom}
use Rattle.sq_live.specs.Stages.{HavePassed}

-- the pieces spell a header with the opening `o`, and then `jobs` for its partitions
pub record SpellJobs (tables : ℕ) (given : List PieceValue) (o : OpeningValue) (jobs : List Job) : Type 0 where
  pub left : List PieceValue
  pub opens : Opens tables (Ok o) left (header_of tables given)
  pub spelled : jobs_in tables o.old.parts [] left ≡ Ok jobs

-- the header has this fault
pub record HasHeaderFault (tables : ℕ) (given : List PieceValue) (fault : LiveFault) : Type 0 where
  pub located : LocatedFault
  pub is : fault ≡ Input located
  pub left : List PieceValue
  pub opens : Opens tables (Err located) left (header_of tables given)

-- the jobs after the header have this fault, unless memory ran out
pub record HasJobFault (tables : ℕ) (given : List PieceValue) (fault : LiveFault) : Type 0 where
  pub opening : OpeningValue
  pub left : List PieceValue
  pub opens : Opens tables (Ok opening) left (header_of tables given)
  pub first : fault ≢ out_of_memory → jobs_in tables opening.old.parts [] left ≡ Err fault

-- the pieces spell no jobs because of this fault, which is their first, unless memory ran out
abbrev pub HaveFault : ℕ → List PieceValue → LiveFault → Type 0
HaveFault tables given fault = HasHeaderFault tables given fault ⊎ HasJobFault tables given fault

-- the pieces spell jobs, but the system granted fewer threads than their run has partitions, or no
-- memory for one
pub record HaveTooFewThreads (tables : ℕ) (given : List PieceValue) (fault : LiveFault) : Type 0 where
  pub is : fault ≡ Threads
  pub opening : OpeningValue
  pub jobs : List Job
  pub spelled : SpellJobs tables given opening jobs

-- jobs were run from an opening, stage by stage, with or without folds between the stages. Whatever
-- the threads did, what each stage left is placed and continues what it began with, and `outcome`
-- is that of the last stage
pub record WereRun (folds : Bool) (o : OpeningValue) (jobs : List Job) (outcome : LiveOutcome) : Type 0 where
  pub set_up : IsOpening o
  pub differ : IdsDiffer jobs
  -- what the stages before the last one left, the latest first
  pub earlier : List GatheredValue
  pub account : AccountValue
  pub began : BeganWith
  pub passed : HavePassed folds o jobs earlier account began
  pub gathered : GatheredValue
  pub ran : RanFrom account.opening began gathered
  pub came : CameTo folds account gathered outcome

-- the jobs that the pieces spell were run with this outcome, or the pieces have this fault, or a
-- run of their jobs lacked threads
abbrev pub EndsLive : Bool → ℕ → List PieceValue → LiveEnding → Type 0
EndsLive folds tables given (Done outcome) =
    (o : OpeningValue) × (jobs : List Job) × SpellJobs tables given o jobs × WereRun folds o jobs outcome
EndsLive folds tables given (Fault fault) = HaveFault tables given fault ⊎ HaveTooFewThreads tables given fault

-- the line that is written
abbrev pub ending_line : LiveEnding → List ℕ
ending_line (Done outcome) = outcome_line outcome
ending_line (Fault fault) = fault_line (live_fault_number fault)

-- what a reader gives ends with `ending`, with or without folds between stages, and the ending's
-- line is appended to what a writer holds
abbrev pub RunsLive : Bool → ℕ → Option (List ℕ) → Option (List ℕ) → Option (List ℕ) → LiveEnding → Type 0
RunsLive folds tables known before now ending =
    (given : List PieceValue) × IsGiven known given × EndsLive folds tables given ending × Appends before now (ending_line ending)

-- pieces that a reader of lines may return spell these jobs
abbrev pub ComesToSpell : ℕ → LinesValue → OpeningValue → List Job → Type 0
ComesToSpell tables lines o jobs = (given : List PieceValue) × CanCome lines given × SpellJobs tables given o jobs

-- pieces that a reader of lines may return have this fault
abbrev pub ComesToFail : ℕ → LinesValue → LiveFault → Type 0
ComesToFail tables lines fault = (given : List PieceValue) × CanCome lines given × HaveFault tables given fault

abbrev pub ending_status : LiveEnding → ℕ
ending_status (Done outcome) = outcome_status outcome
ending_status (Fault fault) = 2
