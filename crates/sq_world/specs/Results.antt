-- The result of a step.
use Rattle.std.specs.Prelude.{ℕ, Bool, ◌==◌, not, if◌then◌else◌, length, option_map, Option, Some, None, Result, Ok, Err}
use Rattle.std.specs.Option.{ok_or}
use Rattle.sq_moves.specs.ReconValue.{stage_on}
use Rattle.sq_store.specs.ChunkValue.{ChunkValue}
use Rattle.sq_model.specs.declared.answer.Answer.{Answer}
use Rattle.sq_model.specs.declared.answer.Answer.TheVariants.{Done, Refused}
use Rattle.sq_model.specs.declared.answer.Refusal.{Refusal}
use Rattle.sq_model.specs.declared.answer.Refusal.TheVariants.{NoSuchLink, OutboxFull, NothingToCut, InboxEmpty, NotFinished, NoSuchPartition, LastStage, Memory}
use Rattle.sq_leader.specs.declared.fault.ReportFault.{ReportFault}
use Rattle.sq_leader.specs.declared.fault.ReportFault.TheVariants as report
use Rattle.sq_leader.specs.declared.fault.NextFault.{NextFault}
use Rattle.sq_leader.specs.declared.fault.NextFault.TheVariants as next
use Rattle.sq_exec.specs.declared.fault.CutFault.{CutFault}
use Rattle.sq_exec.specs.declared.fault.CutFault.TheVariants as cut
use Rattle.sq_exec.specs.declared.fault.LoadFault.{LoadFault}
use Rattle.sq_exec.specs.declared.fault.LoadFault.TheVariants as load
use Rattle.sq_transition.specs.WorldValue.{WorldValue, running_stage, link_index}
use Rattle.sq_world.specs.declared.state.links.LinkPlace.{LinkPlace}

-- the answer to a step that is answered or refused
abbrev pub answer_of : Result Answer Refusal → Answer
answer_of (Ok answer) = answer
answer_of (Err refusal) = Refused refusal

-- a check that refuses if this is so, and otherwise returns a value
abbrev pub unless : {X : Type 0} → Bool → Refusal → X → Result X Refusal
unless wrong refusal value = if wrong then Err refusal else Ok value

-- a check that only refuses
abbrev pub refuse_if : Bool → Refusal → Result (Unit {0}) Refusal
refuse_if wrong refusal = unless wrong refusal tt

-- the answer to a step that is done or refused
abbrev pub done_or : Result (Unit {0}) Refusal → Answer
done_or (Ok done) = Done
done_or (Err refusal) = Refused refusal

-- the link whose queue is at this place, from the one partition to the other
abbrev pub link_place : ℕ → ℕ → ℕ → LinkPlace
link_place src dst at = record { at = at; src = src; dst = dst }

-- the link from the one partition to the other, if the running stage has it
abbrev pub running_link : WorldValue → ℕ → ℕ → Result LinkPlace Refusal
running_link w src dst =
    if not (stage_on w.recon src dst == running_stage w) then Err NoSuchLink
    else ok_or (option_map (link_place src dst) (link_index w src dst)) NoSuchLink

abbrev pub report_refused : ReportFault → Refusal
report_refused report.NoSuchPartition = NoSuchPartition
report_refused report.NotFinished = NotFinished

abbrev pub next_refused : NextFault → Refusal
next_refused next.LastStage = LastStage
next_refused next.NotFinished = NotFinished

abbrev pub cut_refused : CutFault → Refusal
cut_refused cut.OutboxFull = OutboxFull
cut_refused cut.NothingToCut = NothingToCut
cut_refused cut.Memory = Memory

abbrev pub load_refused : LoadFault → Refusal
load_refused load.InboxEmpty = InboxEmpty
load_refused load.Memory = Memory

-- the number of families in a chunk; 0 without a chunk
abbrev pub families_of : Option ChunkValue → ℕ
families_of None = 0
families_of (Some chunk) = length chunk.families
