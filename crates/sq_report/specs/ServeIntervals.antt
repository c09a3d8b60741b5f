-- The short intervals of an engine's service.
use Rattle.std.specs.Prelude.{◌≡◌, ◌⊎◌, ℕ, ◌+◌, List, [], ◌∷◌, ◌++◌, length, sum_by}
use Rattle.sq_report.specs.Spreads.{IsSpreadOf}
use Rattle.sq_serving.specs.declared.watch.ServeMark.{ServeMark}
use Rattle.sq_serving.specs.declared.watch.ServeMark.TheVariants.{JobAnswered}
use Rattle.sq_report.specs.declared.tallies.MovedTally.{MovedTally}
use Rattle.sq_report.specs.declared.serve_intervals.IntervalFigures.{IntervalFigures}
use Rattle.sq_report.specs.declared.serve_intervals.Intervals.{Intervals}

-- how many jobs a mark answers
abbrev pub answers_in : ServeMark → ℕ
answers_in (JobAnswered part id is_commit) = 1
answers_in mark = 0

-- how many jobs were answered in the intervals that are over, and in all
abbrev pub answered_over : List IntervalFigures → ℕ
answered_over over = sum_by (λ figures. figures.answered) over

abbrev pub answers_recorded : Intervals → ℕ
answers_recorded intervals = answered_over intervals.over.items + length intervals.waits.items

-- the figures are those of an interval; `waits` are how long the jobs waited that were answered in
-- it
pub record IsIntervalOf (number : ℕ) (waits : List ℕ) (moved : MovedTally) (complete : ℕ) (figures : IntervalFigures) : Type 0 where
  pub number_is : figures.number ≡ number
  pub answered_is : figures.answered ≡ length waits
  pub spread : IsSpreadOf waits figures.waits
  pub moved_is : figures.moved ≡ moved
  pub complete_is : figures.complete ≡ complete

-- the running interval has ended: its figures come after those before, unless nothing was answered
-- or moved in it
abbrev pub EndsInterval : Intervals → Intervals → Type 0
EndsInterval old new =
    ((new.over.items ≡ old.over.items) × (old.waits.items ≡ []) × (old.moved.families ≡ 0))
    ⊎ ((figures : IntervalFigures) × (new.over.items ≡ old.over.items ++ figures ∷ [])
    × IsIntervalOf old.number old.waits.items old.moved old.complete figures)
