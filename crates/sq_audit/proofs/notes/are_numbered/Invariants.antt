use Rattle.sq_gather.specs.Prelude.{AreNumbered}
use Rattle.sq_audit.proofs.Tiling.{walked}
use Rattle.sq_audit.proofs.notes.are_numbered.Given as goal

abbrev pub invariant-loop-at : goal.invariant-loop-at
invariant-loop-at l = AreNumbered (walked l.notes l.at)
