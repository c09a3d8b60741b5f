use Rattle.std.proofs.Common.{subst}
use Rattle.sq_moves.specs.ReconValue.{IsRecon}
use Rattle.sq_exec.proofs.Opens.{ends_within}
use Rattle.sq_exec.proofs.part_core.open.Places.new.Goals as goal

pub returns-clause-ends : goal.returns-clause-ends
returns-clause-ends c = ends_within c.args.opening.now c.recon.ensures.set_up (subst IsRecon c.recon.ensures.recon c.segments-segments.ensures.recon)
