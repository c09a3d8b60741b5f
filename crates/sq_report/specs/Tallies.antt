-- The counts of an engine that is served.
use Rattle.std.specs.Prelude.{ℕ, ◌+◌, ◌-◌, ◌^◌, Bool, true, false, Option, Some, None, min, max}
use Rattle.sq_serving.specs.declared.watch.ServeMark.{ServeMark}
use Rattle.sq_serving.specs.declared.watch.ServeMark.TheVariants.{EpochBegins, EpochEnds, FamiliesMoved, JobAnswered}
use Rattle.sq_report.specs.declared.tallies.AnswerTally.{AnswerTally}
use Rattle.sq_report.specs.declared.tallies.MovedTally.{MovedTally}
use Rattle.sq_report.specs.declared.tallies.EpochTally.{EpochTally}

-- a sum, or the largest 64-bit number if it doesn't fit
abbrev pub capped_sum : ℕ → ℕ → ℕ
capped_sum a b = min (a + b) (2 ^ 64 - 1)

-- one more job was answered, which waited `wait` microseconds
abbrev pub answer_counted : AnswerTally → Bool → ℕ → AnswerTally
answer_counted t true wait =
    record t { committed = capped_sum t.committed 1; longest = max t.longest wait }
answer_counted t false wait =
    record t { aborted = capped_sum t.aborted 1; longest = max t.longest wait }

-- the tally of jobs after a mark
abbrev pub answers_noted : AnswerTally → ServeMark → ℕ → AnswerTally
answers_noted t (JobAnswered part id is_commit) wait = answer_counted t is_commit wait
answers_noted t mark wait = t

-- the tally of what was moved after a mark
abbrev pub moved_noted : MovedTally → ServeMark → MovedTally
moved_noted t (FamiliesMoved families bytes) =
    record { families = capped_sum t.families families; bytes = capped_sum t.bytes bytes }
moved_noted t mark = t

-- how long the pause was that ends at `micros`
abbrev pub pause_since : Option ℕ → ℕ → ℕ
pause_since None micros = 0
pause_since (Some ended) micros = micros - ended

-- an epoch ends
abbrev pub epoch_ended : EpochTally → ℕ → EpochTally
epoch_ended t micros = record t { ended = Some micros }

-- an epoch begins after a pause
abbrev pub epoch_begun : EpochTally → ℕ → EpochTally
epoch_begun t micros =
    let pause = pause_since t.ended micros in
    record {
      epochs = capped_sum t.epochs 1;
      longest = max t.longest pause;
      total = capped_sum t.total pause;
      ended = None;
    }

-- the tally of epochs after a mark made at `micros`
abbrev pub epochs_noted : EpochTally → ServeMark → ℕ → EpochTally
epochs_noted t EpochBegins micros = epoch_begun t micros
epochs_noted t EpochEnds micros = epoch_ended t micros
epochs_noted t mark micros = t
