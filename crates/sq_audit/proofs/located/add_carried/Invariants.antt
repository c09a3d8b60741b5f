use Rattle.std.proofs.Common.{◌≡◌, ◌++◌, take}
use Rattle.sq_audit.specs.Located.{spot_of, entries_in}
use Rattle.sq_audit.proofs.Listing.{of_spot}
use Rattle.sq_audit.proofs.located.add_carried.Given as goal

abbrev pub invariant-loop-family : goal.invariant-loop-family
invariant-loop-family l = entries_in l.all.items ≡ entries_in l.initial.all.items ++ of_spot (spot_of l.site) (take l.family-index l.family-items)
