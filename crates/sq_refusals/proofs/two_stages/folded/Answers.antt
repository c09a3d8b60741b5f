use Rattle.std.proofs.Common.{sym, subst}
use Rattle.sq_audit.specs.Answers.{IdsDiffer}
use Rattle.sq_refusals.proofs.two_stages.folded.Goals as goal

pub check_done-requires : goal.check_done-requires
check_done-requires g c = subst IdsDiffer (sym c.deref-2.ensures.value) c.requires
