use Rattle.sq_audit.specs.Fits.{IsKnownLink}
use Rattle.sq_audit.proofs.Each.{EachTo}
use Rattle.sq_audit.proofs.fits.are_known_links.Given as goal

abbrev pub invariant-loop-link : goal.invariant-loop-link
invariant-loop-link l = EachTo (IsKnownLink l.recon l.stage l.links) l.gathered l.link-index
