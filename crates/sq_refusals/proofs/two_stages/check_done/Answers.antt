use Rattle.sq_audit.specs.declared.verdict.Defect.TheVariants.{Unanswered}
use Rattle.sq_audit.specs.Defects.{IsFirstDefect}
use Rattle.sq_audit.specs.Sound.{with_receipts}
use Rattle.sq_refusals.proofs.Done.{grown}
use Rattle.sq_refusals.proofs.two_stages.check_done.Goals as goal

pub check_segments-requires : goal.check_segments-requires
check_segments-requires c =
    let run = with_receipts c.args.gathered.now c.args.receipts.now in
    let defect : IsFirstDefect c.args.opening.now run c.args.jobs.now Unanswered = rw c.in-Unsound-Unanswered.field-0-is at (rw c.in-Unsound-Unanswered.is at c.in_ok-audit.ensures) in
    grown c.args.opening.now run c.args.jobs.now defect
