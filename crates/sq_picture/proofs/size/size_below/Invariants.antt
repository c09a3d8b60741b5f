use Rattle.sq_picture.proofs.Weighing.{Weighs}
use Rattle.sq_picture.proofs.size.size_below.Given as goal

-- the families before those that are left are weighed
abbrev pub invariant-loop-root : goal.invariant-loop-root
invariant-loop-root l = Weighs l.limit l.end l.fn.entries l.root-iterator l.size l.cutting
