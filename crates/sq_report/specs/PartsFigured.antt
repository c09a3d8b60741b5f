-- How jobs ended at a partition.
use Rattle.std.specs.Prelude.{◌≡◌, ℕ, ◌==◌, ◌&&◌, List, length, map, filter, filter_map, is_some}
use Rattle.sq_report.specs.declared.moment.TimedAnswer.{TimedAnswer}
use Rattle.sq_report.specs.declared.part_figures.PartFigures.{PartFigures}
use Rattle.sq_report.specs.Spreads.{IsSpreadOf}

-- how long the jobs took that a partition answered, and how long those of them took that had waited
-- there
abbrev pub times_at : List TimedAnswer → ℕ → List ℕ
times_at answers part = map (λ answer. answer.micros_since_post) (filter (λ answer. answer.part == part) answers)

abbrev pub waited_times_at : List TimedAnswer → ℕ → List ℕ
waited_times_at answers part =
    map (λ answer. answer.micros_since_post) (filter (λ answer. (answer.part == part) && is_some answer.waited) answers)

-- how long the jobs had waited that a partition answered
abbrev pub wait_times_at : List TimedAnswer → ℕ → List ℕ
wait_times_at answers part = filter_map (λ answer. answer.waited) (filter (λ answer. answer.part == part) answers)

-- the figures are those of a partition that committed and aborted so many jobs; `answers` are those
-- of all partitions
pub record ArePartFigures (part committed aborted : ℕ) (answers : List TimedAnswer) (figures : PartFigures) : Type 0 where
  pub number : figures.part ≡ part
  pub commits : figures.committed ≡ committed
  pub aborts : figures.aborted ≡ aborted
  pub count : figures.waited ≡ length (wait_times_at answers part)
  pub all : IsSpreadOf (times_at answers part) figures.answers
  pub waiting : IsSpreadOf (waited_times_at answers part) figures.waited_answers
  pub waits : IsSpreadOf (wait_times_at answers part) figures.waits
