use Rattle.std.proofs.Common.{◌≤◌}
use Rattle.sq_audit.specs.Located.{entries_in}
use Rattle.sq_audit.specs.Index.{AgreeTo}
use Rattle.sq_audit.proofs.index.stand_once.Given as goal

-- the families so far agree
abbrev pub invariant-loop-at : goal.invariant-loop-at
invariant-loop-at l = record { some : 1 ≤ l.at; so_far : AgreeTo (entries_in l.all) l.at }
