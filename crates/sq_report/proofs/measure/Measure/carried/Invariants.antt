use Rattle.std.proofs.Common.{◌≡◌, take}
use Rattle.std.specs.Prelude.{sum_by}
use Rattle.sq_report.specs.Notes.{told}
use Rattle.sq_report.specs.Measures.{measure_of}
use Rattle.sq_report.proofs.measure.Measure.carried.Given as goal

abbrev pub invariant-loop-family : goal.invariant-loop-family
invariant-loop-family l = l.sum ≡ told (sum_by (measure_of l.self) (take l.family-index l.family-items))
