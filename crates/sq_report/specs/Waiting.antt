-- How many jobs wait for rows, over time.
use Rattle.std.specs.Prelude.{ℕ, ◌-◌, ◌&&◌, nat_le, max, List, fold, filter, count_by}
use Rattle.sq_report.specs.declared.waiting.WaitTimes.{WaitTimes}
use Rattle.sq_report.specs.declared.waiting.WaitCount.{WaitCount}

-- how many of these times lie within two of them
abbrev pub times_within : List ℕ → ℕ → ℕ → ℕ
times_within times from to = count_by (λ time. nat_le from time && nat_le time to) times

-- the latest of these times up to a moment; 0 if there is none
abbrev pub latest : List ℕ → ℕ → ℕ
latest times micros = fold (λ most time. max most time) 0 (filter (λ time. nat_le time micros) times)

-- how many jobs wait at a moment: those that began to in the stage that runs then, but for those
-- that were answered
abbrev pub number_waiting : WaitTimes → ℕ → ℕ
number_waiting times micros =
    times_within times.begins.items (latest times.stages.items micros) micros
    - times_within times.ends.items (latest times.stages.items micros) micros

abbrev pub wait_count : WaitTimes → ℕ → WaitCount
wait_count times micros = record { micros = micros; jobs = number_waiting times micros }

-- the most jobs that wait at one of these moments
abbrev pub most_of : List WaitCount → ℕ
most_of waiting = fold (λ most here. max most here.jobs) 0 waiting
