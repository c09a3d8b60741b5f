use Rattle.std.proofs.Common.{◌≡◌, ◌++◌, take}
use Rattle.sq_audit.specs.Spans.{marked_in, marked}
use Rattle.sq_audit.proofs.spans.add.Given as goal

abbrev pub invariant-loop-note : goal.invariant-loop-note
invariant-loop-note l = marked_in l.spans.items ≡ marked_in l.fn.spans.items ++ marked l.loaded (take l.note-index l.notes)
