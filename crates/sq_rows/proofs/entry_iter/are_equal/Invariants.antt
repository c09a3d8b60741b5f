use Rattle.std.proofs.Common.{◌≡◌, length}
use Rattle.sq_rows.specs.Equal.{rows_eq}
use Rattle.sq_rows.proofs.entry_iter.are_equal.Given as goal

-- those that are left decide whether all are equal
abbrev pub invariant-loop-entry : goal.invariant-loop-entry
invariant-loop-entry l = rows_eq l.one l.other ≡ rows_eq l.fn.one l.fn.other

abbrev pub decreases-loop-entry : goal.decreases-loop-entry
decreases-loop-entry l = length l.one
