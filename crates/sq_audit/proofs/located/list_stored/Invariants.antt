use Rattle.sq_audit.specs.Located.{entries_in}
use Rattle.sq_audit.proofs.Listing.{StoredTo}
use Rattle.sq_audit.proofs.located.list_stored.Given as goal

abbrev pub invariant-loop-part : goal.invariant-loop-part
invariant-loop-part l = StoredTo l.g l.part (entries_in l.all.items)
