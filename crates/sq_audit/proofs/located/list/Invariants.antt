use Rattle.sq_audit.specs.Located.{entries_in}
use Rattle.sq_audit.proofs.Listing.{LinkedTo}
use Rattle.sq_audit.proofs.located.list.Given as goal

abbrev pub invariant-loop-at : goal.invariant-loop-at
invariant-loop-at l = LinkedTo l.g l.at (entries_in l.all.items)
