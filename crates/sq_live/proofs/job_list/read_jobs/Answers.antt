use Rattle.std.proofs.Common.{◌≡◌, Ok, Err, Some, [], ◌∷◌, ◌++◌, ap, ◌∙◌, subst}
use Rattle.sq_text.specs.Pieces.{next_line_number}
use Rattle.sq_text.proofs.Comings.{some_pieces, come_now}
use Rattle.sq_text.specs.declared.input_fault.InputFault.TheVariants.{ReadFailed, TooLong}
use Rattle.sq_text.specs.declared.located.InputLine.TheVariants.{Later}
use Rattle.sq_text.specs.Located.{located}
use Rattle.sq_audit.specs.declared.job.Job.{Job}
use Rattle.sq_live.specs.declared.fault.JobFault.TheVariants.{NotAJob}
use Rattle.sq_live.specs.declared.fault.LiveFault.TheVariants.{Input}
use Rattle.sq_live.specs.Faults.{fault_at}
use Rattle.sq_live.specs.JobLines.{job_of, AddsJob}
use Rattle.sq_live.proofs.JobRuns.{job_more, parts_more, at_line, at_end, at_rest, at_failed, at_long, at_too_many}
use Rattle.sq_live.proofs.job_list.read_jobs.Goals as goal

pub returns-in-Err-clause-fault : goal.returns-in-Err-clause-fault
returns-in-Err-clause-fault g c =
    let jobs = c.loop-jobs.jobs in
    let some = some_pieces c.next_read.new.self in
    let adds = subst (λ bytes. AddsJob c.args.schema.now c.args.parts jobs bytes (Err c.in-Err.fault) c.add_line.new.self) c.piece.ensures c.in-Err.ensures in
    at_line _ _ _ _ jobs c.loop-jobs.invariant.0 c.in-Err.fault c.at.result (next_line_number c.loop-jobs.lines.lines_left) c.next_read.new.self.piece _ some.pieces (some.can_come.0, c.in-Line.ensures.finds.0 some.can_come.0 some.pieces some.can_come.1) adds
    (c.at.ensures ∙ ap (λ n. fault_at n c.in-Err.fault) c.next_line_number-line.ensures)

pub loop-jobs-preserved : goal.loop-jobs-preserved
loop-jobs-preserved g c =
    let jobs = c.loop-jobs.jobs in
    let more = c.add_line.new.self in
    let adds : (job : Job) × (job_of c.args.schema.now c.args.parts jobs c.next_read.new.self.piece ≡ Ok job) × (more ≡ jobs ++ job ∷ []) =
    subst (λ bytes. (job : Job) × (job_of c.args.schema.now c.args.parts jobs bytes ≡ Ok job) × (more ≡ jobs ++ job ∷ [])) c.piece.ensures c.in_default.ensures in (
      job_more _ _ _ _ jobs c.loop-jobs.invariant.0 c.next_read.new.self (next_line_number c.loop-jobs.lines.lines_left) c.next_read.new.self.piece more c.in-Line.ensures.finds.0 adds,
      parts_more _ _ c.args.lines.now c.loop-jobs.lines jobs c.loop-jobs.invariant.0 c.next_read.new.self.piece more c.loop-jobs.invariant.1 adds,
    )

pub returns-in-End-clause-jobs : goal.returns-in-End-clause-jobs
returns-in-End-clause-jobs g c = at_end _ _ _ _ _ c.loop-jobs.invariant.0 (come_now _ _ _ c.in-End.ensures.finds)

pub returns-in-Rest-clause-fault : goal.returns-in-Rest-clause-fault
returns-in-Rest-clause-fault g c =
    at_rest _ _ _ _ _ c.loop-jobs.invariant.0 c.at-in-Rest.result _ _ (come_now _ _ _ c.in-Rest.ensures.finds.0) (c.at-in-Rest.ensures ∙ ap (λ n. fault_at n NotAJob) c.next_line_number-line.ensures)

pub returns-in-Failed-clause-fault : goal.returns-in-Failed-clause-fault
returns-in-Failed-clause-fault g c =
    at_failed _ _ _ _ _ c.loop-jobs.invariant.0 c.into.result _ _ (come_now _ _ _ c.in-Failed.ensures.finds.1) (c.into.ensures ∙ ap Input c.at-in-Failed.ensures ∙ ap (λ n. Input (located ReadFailed (Some (Later n)))) c.next_line_number-line.ensures)

pub returns-in-Long-clause-fault : goal.returns-in-Long-clause-fault
returns-in-Long-clause-fault g c =
    at_long _ _ _ _ _ c.loop-jobs.invariant.0 c.next_read.new.self c.into-in-Long.result c.in-Long.ensures.finds.0 c.in-Long.ensures.finds.1 (c.into-in-Long.ensures ∙ ap Input c.at-in-Long.ensures ∙ ap (λ n. Input (located TooLong (Some (Later n)))) c.next_line_number-line.ensures)

pub returns-in-TooMany-clause-fault : goal.returns-in-TooMany-clause-fault
returns-in-TooMany-clause-fault g c = at_too_many _ _ _ _ _ c.loop-jobs.invariant.0 c.into-in-TooMany.result (come_now _ _ _ c.in-TooMany.ensures.finds) (c.into-in-TooMany.ensures ∙ ap Input c.at-in-TooMany.ensures)
