use Rattle.std.proofs.Common.{◌≡◌, take, length}
use Rattle.std.specs.Prelude.{sum_by}
use Rattle.sq_report.specs.Notes.{told}
use Rattle.sq_report.proofs.notes.count_under_way.Given as goal

abbrev pub invariant-loop-chunk : goal.invariant-loop-chunk
invariant-loop-chunk l = l.count ≡ told (sum_by (λ chunk. length chunk.families) (take l.chunk-index l.chunks))
