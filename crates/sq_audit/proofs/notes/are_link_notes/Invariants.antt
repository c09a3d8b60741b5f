use Rattle.sq_gather.specs.Prelude.{IsLinkNote}
use Rattle.sq_audit.proofs.Each.{EachTo}
use Rattle.sq_audit.proofs.notes.are_link_notes.Given as goal

abbrev pub invariant-loop-note : goal.invariant-loop-note
invariant-loop-note l = EachTo (IsLinkNote l.opening l.g l.link) l.link.notes l.note-index
