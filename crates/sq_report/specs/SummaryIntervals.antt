-- How many jobs were answered in each short interval.
use Rattle.std.specs.Prelude.{ℕ, ◌/◌, ◌==◌, ◌&&◌, max, is_some, List, fold, count_by}
use Rattle.sq_report.specs.declared.moment.Moment.{Moment}
use Rattle.sq_report.specs.declared.chart_intervals.Interval.{Interval}

-- how many jobs were answered in interval `number`, each `len` microseconds long
abbrev pub answered_in : List Moment → ℕ → ℕ → ℕ
answered_in moments len number = count_by (λ moment. is_some moment.answer && (moment.micros / len == number)) moments

abbrev pub interval_of : List Moment → ℕ → ℕ → Interval
interval_of moments len number = record { number = number; jobs = answered_in moments len number }

-- the most jobs that were answered in one of these intervals
abbrev pub most_in : List Interval → ℕ
most_in intervals = fold (λ most interval. max most interval.jobs) 0 intervals
