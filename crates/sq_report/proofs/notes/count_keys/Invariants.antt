use Rattle.std.proofs.Common.{◌≡◌, take}
use Rattle.std.specs.Prelude.{sum_by}
use Rattle.sq_report.specs.Notes.{told, covered_keys}
use Rattle.sq_report.proofs.notes.count_keys.Given as goal

abbrev pub invariant-loop-note : goal.invariant-loop-note
invariant-loop-note l = l.count ≡ told (sum_by covered_keys (take l.note-index l.notes))
