use Rattle.std.proofs.Common.{drop}
use Rattle.sq_moves.proofs.Openings.{IsSoFar}
use Rattle.sq_moves.proofs.given.table_of.Given as goal

abbrev pub invariant-loop-at : goal.invariant-loop-at
invariant-loop-at l = IsSoFar l.tables l.rows l.at (drop l.at l.rows) l.table
