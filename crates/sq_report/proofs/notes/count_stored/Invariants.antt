use Rattle.std.proofs.Common.{◌≡◌, take}
use Rattle.std.specs.Prelude.{sum_by}
use Rattle.sq_report.specs.Notes.{told, stored_in}
use Rattle.sq_report.proofs.notes.count_stored.Given as goal

abbrev pub invariant-loop-note : goal.invariant-loop-note
invariant-loop-note l = l.count ≡ told (sum_by (stored_in l.store) (take l.note-index l.notes))
