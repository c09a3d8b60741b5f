-- The last line of an engine that was served.
use Rattle.std.specs.Prelude.{◌≡◌, false, ℕ, if◌then◌else◌, List, [], Option, None}
use Rattle.std.specs.Option.{option_map_or}
use Rattle.std.specs.Io.KnownBytes.{Appends}
use Rattle.sq_schema.specs.Fault.{memory_number}
use Rattle.sq_text.specs.InputFaults.{input_fault_number}
use Rattle.sq_text.specs.Texts.{fault_line}
use Rattle.sq_live.specs.declared.outcome.LiveOutcome.TheVariants as outcome
use Rattle.sq_live.specs.Outcome.{outcome_line}
use Rattle.sq_serving.specs.declared.line_place.HeaderFault.{HeaderFault}
use Rattle.sq_serving.specs.declared.serve_answer.ServeAnswer.TheVariants.{Fault}
use Rattle.sq_serving.specs.ServeAnswers.{serve_answer_line}
use Rattle.sq_serving.specs.declared.ending.ServeEnding.{ServeEnding}
use Rattle.sq_serving.specs.declared.ending.ServeEnding.TheVariants.{Sound, Unsound, NoHeader, Memory, Threads, Unwritten}
use Rattle.sq_serving.specs.declared.outlet.Outlet.{Outlet}
use Rattle.sq_serving.specs.Saying.{Says}

-- the line of a fault of a header, with the number of its line in its own file, if it has one
abbrev pub line_of_fault : HeaderFault → List ℕ
line_of_fault header =
    option_map_or (λ place. serve_answer_line (Fault (input_fault_number header.located.fault) place.line None)) header.place
    (fault_line (input_fault_number header.located.fault))

-- the line of an ending, if it has one
abbrev pub IsLineOfEnding : ServeEnding → List ℕ → Type 0
IsLineOfEnding (Sound families committed input) text = text ≡ outcome_line (outcome.Sound families committed)
IsLineOfEnding (Unsound defect) text = text ≡ outcome_line (outcome.Unsound defect)
IsLineOfEnding (NoHeader header) text = text ≡ line_of_fault header
IsLineOfEnding Memory text = text ≡ fault_line memory_number
IsLineOfEnding Threads text = text ≡ fault_line memory_number
IsLineOfEnding Unwritten text = text ≡ []

-- a line with this property was written
abbrev pub SaysLine : {W : Type 0} → (List ℕ → Type 0) → (W → Option (List ℕ)) → Outlet W → Outlet W → Type 0
SaysLine is contents old new = (text : List ℕ) × is text × Says contents old text new

-- the line of an ending was written, or else it can't be written
pub record TellsEnding {W : Type 0} (contents : W → Option (List ℕ)) (old : Outlet W) (ending : ServeEnding) (new : Outlet W) (told : ServeEnding) : Type 0 where
  pub text : List ℕ
  pub is : IsLineOfEnding ending text
  pub written : new.has_failed ≡ false → Appends (contents old.writer) (contents new.writer) text
  pub goes_on : new.has_failed ≡ false → old.has_failed ≡ false
  pub told_is : told ≡ (if new.has_failed then Unwritten else ending)
