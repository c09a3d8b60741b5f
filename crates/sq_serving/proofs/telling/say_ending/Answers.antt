use Rattle.std.proofs.Common.{[], refl}
use Rattle.sq_schema.specs.Fault.{memory_number}
use Rattle.sq_text.specs.Texts.{fault_line}
use Rattle.sq_live.specs.declared.outcome.LiveOutcome.TheVariants as outcome
use Rattle.sq_live.specs.Outcome.{outcome_line}
use Rattle.sq_text.proofs.Appending.{appends_none}
use Rattle.sq_serving.proofs.telling.say_ending.Goals as goal

pub returns-in-Sound : goal.returns-in-Sound
returns-in-Sound g c =
    (outcome_line (outcome.Sound c.in-Sound.families c.in-Sound.committed), rw c.in-Sound.is refl, c.say_outcome.ensures)

pub returns-in-Unsound : goal.returns-in-Unsound
returns-in-Unsound g c =
    (outcome_line (outcome.Unsound c.in-Unsound.defect), rw c.in-Unsound.is refl, c.say_outcome-in-Unsound.ensures)

pub returns-in-Memory : goal.returns-in-Memory
returns-in-Memory g c = (fault_line memory_number, rw c.in-Memory.is refl, c.say_fault.ensures)

pub returns-in-Threads : goal.returns-in-Threads
returns-in-Threads g c = (fault_line memory_number, rw c.in-Threads.is refl, c.say_fault-in-Threads.ensures)

pub returns-in-Unwritten : goal.returns-in-Unwritten
returns-in-Unwritten g c = (
  [],
  rw c.in-Unwritten.is refl,
  record { goes_on = λ still. still; written = λ still. appends_none (g.W.Write.contents c.args.outlet.now.writer) },
)
