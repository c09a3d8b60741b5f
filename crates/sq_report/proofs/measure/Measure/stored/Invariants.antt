use Rattle.std.proofs.Common.{◌≡◌, take}
use Rattle.std.specs.Prelude.{sum_by}
use Rattle.sq_report.specs.Notes.{told}
use Rattle.sq_report.specs.Measures.{stored_measure}
use Rattle.sq_report.proofs.measure.Measure.stored.Given as goal

abbrev pub invariant-loop-note : goal.invariant-loop-note
invariant-loop-note l = l.sum ≡ told (sum_by (stored_measure l.self l.store) (take l.note-index l.notes))
