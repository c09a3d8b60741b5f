use Rattle.sq_audit.specs.Fits.{HasOne}
use Rattle.sq_audit.proofs.Each.{EachTo}
use Rattle.sq_audit.proofs.fits.have_one_each.Given as goal

abbrev pub invariant-loop-link : goal.invariant-loop-link
invariant-loop-link l = EachTo (HasOne l.recon l.stage l.gathered) l.links l.link-index
