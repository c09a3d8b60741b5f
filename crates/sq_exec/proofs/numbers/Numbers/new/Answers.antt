use Rattle.std.proofs.Common.{sym, subst}
use Rattle.std.specs.Ordering.{nat_cmp}
use Rattle.std.specs.List.Sorted.{IsStrictlySortedBy}
use Rattle.sq_exec.proofs.Places.{sorted_none}
use Rattle.sq_exec.proofs.numbers.Numbers.new.Goals as goal

pub invariant_of-result : goal.invariant_of-result
invariant_of-result c = subst (IsStrictlySortedBy nat_cmp) (sym c.new.ensures.items) sorted_none
