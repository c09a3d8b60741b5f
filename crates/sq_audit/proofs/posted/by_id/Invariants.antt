use Rattle.sq_audit.specs.Index.{IsIndexTo}
use Rattle.sq_audit.specs.Told.{id_of}
use Rattle.sq_audit.proofs.posted.by_id.Given as goal

abbrev pub invariant-loop-at : goal.invariant-loop-at
invariant-loop-at l = IsIndexTo id_of l.jobs l.at l.places.items
