use Rattle.std.proofs.Common.{Bool, List}
use Rattle.sq_moves.specs.OpeningValue.{OpeningValue}
use Rattle.sq_audit.specs.declared.job.Job.{Job}
use Rattle.sq_live.specs.declared.outcome.LiveOutcome.{LiveOutcome}
use Rattle.sq_live.specs.declared.outcome.LiveOutcome.TheVariants.{Sound, Stopped, Unsound}
use Rattle.sq_live.specs.Live.{WereRun}
use Rattle.sq_live.specs.WholeRun.{MeetsPlan}
use Rattle.sq_live.proofs.Planned.{sound_ends}
use Rattle.sq_live.proofs.laws.a_sound_run_ends_where_planned.Goals as goal

-- by the outcome
meets : (folds : Bool) (o : OpeningValue) (jobs : List Job) (outcome : LiveOutcome) (run : WereRun folds o jobs outcome)
    → MeetsPlan folds o jobs run.earlier run.gathered outcome
meets folds o jobs (Sound families committed) run = sound_ends o jobs families committed folds run
meets folds o jobs (Stopped answered all complete segments) run = tt
meets folds o jobs (Unsound defect) run = tt

pub returns-clause-run : goal.returns-clause-run
returns-clause-run c = meets

pub returns-clause-input : goal.returns-clause-input
returns-clause-input c = λ folds tables given families committed ends.
    let (o, jobs, spelled, run) = ends in
    (o, jobs, run.earlier, run.gathered, spelled, sound_ends o jobs families committed folds run)
