use Rattle.std.proofs.Common.{◌≡◌, ◌++◌, List}
use Rattle.sq_audit.specs.Located.{Entry, entries_in}
use Rattle.sq_audit.proofs.Listing.{CarriedTo}
use Rattle.sq_audit.proofs.located.add_under_way.Given as goal

abbrev pub invariant-loop-chunk : goal.invariant-loop-chunk
invariant-loop-chunk l = (entries : List Entry) × (entries_in l.all.items ≡ entries_in l.initial.all.items ++ entries) × CarriedTo l.link l.of l.chunk entries
