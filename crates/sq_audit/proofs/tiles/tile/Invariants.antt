use Rattle.sq_audit.proofs.Tiling.{Walked}
use Rattle.sq_audit.proofs.tiles.tile.Given as goal

abbrev pub invariant-loop-note : goal.invariant-loop-note
invariant-loop-note l = Walked l.opening l.notes l.note-index l.newest
