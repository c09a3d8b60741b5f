use Rattle.sq_gather.specs.Prelude.{IsLinkPlaced}
use Rattle.sq_audit.proofs.Each.{EachTo}
use Rattle.sq_audit.proofs.notes.links_fit.Given as goal

abbrev pub invariant-loop-link : goal.invariant-loop-link
invariant-loop-link l = EachTo (IsLinkPlaced l.opening l.g) l.g.links l.link-index
