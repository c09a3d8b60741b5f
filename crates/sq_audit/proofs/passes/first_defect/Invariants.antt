use Rattle.std.proofs.Common.{◌+◌}
use Rattle.sq_audit.specs.Sound.{with_receipts}
use Rattle.sq_audit.specs.Defects.{ClearBelow}
use Rattle.sq_audit.proofs.passes.first_defect.Given as goal

-- there is no defect of those that were looked for
abbrev pub invariant-loop-defect : goal.invariant-loop-defect
invariant-loop-defect l = ClearBelow l.opening (with_receipts l.g l.receipts) l.jobs (301 + l.defect-index)
