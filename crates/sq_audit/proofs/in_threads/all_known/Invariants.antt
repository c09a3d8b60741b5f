use Rattle.std.proofs.Common.{◌≡◌, true, map, Ok}
use Rattle.sq_audit.specs.Told.{said_by}
use Rattle.sq_audit.proofs.Each.{EachTo}
use Rattle.sq_audit.proofs.in_threads.all_known.Given as goal

abbrev pub invariant-loop-one : goal.invariant-loop-one
invariant-loop-one l = EachTo (λ one. one ≡ Ok true) (map (said_by (λ found. found.known)) l.said) l.one-index
