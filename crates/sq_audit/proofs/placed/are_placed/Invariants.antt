use Rattle.sq_audit.specs.Located.{entries_in}
use Rattle.sq_audit.specs.Spans.{marked_in, IsPlacedBy}
use Rattle.sq_audit.proofs.Each.{EachTo}
use Rattle.sq_audit.proofs.placed.are_placed.Given as goal

abbrev pub invariant-loop-located : goal.invariant-loop-located
invariant-loop-located l = EachTo (IsPlacedBy l.opening l.g.stage (marked_in l.spans.items)) (entries_in l.all) l.located-index
