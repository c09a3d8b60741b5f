-- How an engine that is served ends.
use Rattle.std.specs.Prelude.{ℕ, Option, Some, None}
use Rattle.sq_serving.specs.declared.ending.InputOutcome.{InputOutcome}
use Rattle.sq_serving.specs.declared.ending.InputOutcome.TheVariants.{Whole, Broken, Refused}
use Rattle.sq_serving.specs.declared.ending.ServeEnding.{ServeEnding}
use Rattle.sq_serving.specs.declared.ending.ServeEnding.TheVariants.{Sound, Unsound, NoHeader, Memory, Threads, Unwritten}

-- the exit status of an engine that ends sound
abbrev pub input_status : InputOutcome → ℕ
input_status Whole = 0
input_status Broken = 2
input_status Refused = 3

-- the exit status of an ending
abbrev pub serve_status : ServeEnding → ℕ
serve_status (Sound families committed input) = input_status input
serve_status (Unsound defect) = 4
serve_status (NoHeader fault) = 2
serve_status Memory = 2
serve_status Threads = 2
serve_status Unwritten = 2

-- how far a strict input was taken after a line of it was refused
abbrev pub outcome_refused : Option InputOutcome → InputOutcome
outcome_refused (Some Broken) = Broken
outcome_refused (Some Whole) = Refused
outcome_refused (Some Refused) = Refused
outcome_refused None = Refused

-- nothing more could be done: memory ran out, or nothing could be written
abbrev pub EndsStopped : ServeEnding → Type 0
EndsStopped Memory = Unit {0}
EndsStopped Threads = ⊥
EndsStopped Unwritten = Unit {0}
EndsStopped (Sound families committed input) = ⊥
EndsStopped (Unsound defect) = ⊥
EndsStopped (NoHeader fault) = ⊥
