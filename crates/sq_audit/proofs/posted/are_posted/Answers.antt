use Rattle.std.proofs.Common.{sym, subst}
use Rattle.sq_audit.specs.Index.{IsIndexOf}
use Rattle.sq_audit.specs.Told.{id_of}
use Rattle.sq_audit.proofs.posted.are_posted.Goals as goal

pub all_posted-requires-clause-places : goal.all_posted-requires-clause-places
all_posted-requires-clause-places c =
    subst (IsIndexOf id_of c.args.jobs.now) (sym c.deref.ensures.value) c.in_ok-places.ensures
