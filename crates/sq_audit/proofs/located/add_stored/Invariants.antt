use Rattle.sq_audit.specs.Located.{spot_of, entries_in}
use Rattle.sq_audit.proofs.Listing.{SomeAdded}
use Rattle.sq_audit.proofs.located.add_stored.Given as goal

-- some of the families are listed, and the others are left
abbrev pub invariant-loop-family : goal.invariant-loop-family
invariant-loop-family l =
    (goal.iterator-loop-family).can_next l.family-iterator
    × (goal.iterator-loop-family).is_finite l.family-iterator
    × SomeAdded (spot_of l.site) l.store (entries_in l.initial.all.items) l.family-iterator (entries_in l.all.items)
