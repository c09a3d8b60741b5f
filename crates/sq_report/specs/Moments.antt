-- The progress of a run after each of its events.
use Rattle.std.specs.Prelude.{◌≡◌, ℕ, ◌+◌, Bool, true, false, not, List, length, take, slice_get, Option, Some, None, count_by}
use Rattle.sq_report.specs.declared.moment.TimedAnswer.{TimedAnswer}
use Rattle.sq_report.specs.declared.moment.Happened.{Happened}
use Rattle.sq_report.specs.declared.moment.Happened.TheVariants.{JobAnswered, SegmentComplete}
use Rattle.sq_report.specs.declared.moment.Event.{Event}
use Rattle.sq_report.specs.declared.moment.Moment.{Moment}

-- the event is the answer of a job, else the completion of a segment
abbrev pub answers_job : Happened → Bool
answers_job (JobAnswered _) = true
answers_job SegmentComplete = false

-- the answer of a job, if the event is one
abbrev pub answer_in : Happened → Option TimedAnswer
answer_in (JobAnswered answer) = Some answer
answer_in SegmentComplete = None

-- the moment after these events: the time of the last of them, how many jobs were answered and
-- segments complete by then, and its answer
abbrev pub moment_of : List Event → Event → Moment
moment_of events last = record {
  micros = last.micros;
  jobs = count_by (λ event. answers_job event.what) events;
  segments = count_by (λ event. not (answers_job event.what)) events;
  answer = answer_in last.what;
}

-- there is a moment for each event: the one after all events up to it
pub record AreMoments (events : List Event) (moments : List Moment) : Type 0 where
  pub count : length moments ≡ length events
  pub each : (i : ℕ) (event : Event) (moment : Moment) → slice_get events i ≡ Some event → slice_get moments i ≡ Some moment
      → moment ≡ moment_of (take (i + 1) events) event

abbrev pub one_more : Moment → ℕ → Happened → Moment
one_more moment micros (JobAnswered answer) =
    record { micros = micros; jobs = moment.jobs + 1; segments = moment.segments; answer = Some answer }
one_more moment micros SegmentComplete =
    record { micros = micros; jobs = moment.jobs; segments = moment.segments + 1; answer = None }

-- the moment after one more event
abbrev pub moment_after : Moment → Event → Moment
moment_after moment event = one_more moment event.micros event.what
