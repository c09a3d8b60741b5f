use Rattle.std.proofs.Common.{subst}
use Rattle.sq_gather.specs.Prelude.{IsOpening, IsSetUp, folded_opening}
use Rattle.sq_gather.proofs.Prelude.{rowless_opening}
use Rattle.sq_audit.specs.Sound.{with_receipts}
use Rattle.sq_audit.specs.Folding.{IsReadyToFold}
use Rattle.sq_audit.proofs.Folds.{is_fold}
use Rattle.sq_audit.proofs.folding.complete.Goals as goal

pub returns-in-Ok-Ready-clause-folded : goal.returns-in-Ok-Ready-clause-folded
returns-in-Ok-Ready-clause-folded c =
    let o = c.args.opening in
    let folded = folded_opening o c.in-Ok-Ready.ready.table in
    let is : IsOpening o = rowless_opening folded o.table (subst IsSetUp c.finish.ensures.opening c.finish.ensures.set_up).opening in
    let ready : IsReadyToFold o (with_receipts c.args.gathered c.args.receipts.items) c.args.jobs.items c.in-Ok-Ready.ready = rw c.in-Ok-Ready.field-0-is at (rw c.in-Ok-Ready.is at c.requires.prepared) in
    is_fold o is (with_receipts c.args.gathered c.args.receipts.items) c.requires.done c.args.jobs.items c.requires.ids c.in-Ok-Ready.ready
    ready
    c.finish.result c.finish.ensures.opening c.finish.ensures.gathered c.finish.ensures.jobs
