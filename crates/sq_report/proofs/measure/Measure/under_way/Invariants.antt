use Rattle.std.proofs.Common.{◌≡◌, take}
use Rattle.std.specs.Prelude.{sum_by}
use Rattle.sq_report.specs.Notes.{told}
use Rattle.sq_report.specs.Measures.{carried_measure}
use Rattle.sq_report.proofs.measure.Measure.under_way.Given as goal

abbrev pub invariant-loop-chunk : goal.invariant-loop-chunk
invariant-loop-chunk l = l.sum ≡ told (sum_by (carried_measure l.self) (take l.chunk-index l.chunks))
