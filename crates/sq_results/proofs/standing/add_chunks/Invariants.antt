use Rattle.std.proofs.Common.{◌≡◌, ◌++◌, take}
use Rattle.sq_results.specs.RowLines.{lent_values}
use Rattle.sq_results.specs.Standing.{carried}
use Rattle.sq_results.proofs.standing.add_chunks.Given as goal

abbrev pub invariant-loop-chunk : goal.invariant-loop-chunk
invariant-loop-chunk l = lent_values l.families.items ≡ lent_values l.initial.families.items ++ carried (take l.chunk-index l.chunks)
