use Rattle.std.proofs.Common.{◌≡◌, ◌++◌, take}
use Rattle.sq_results.specs.RowLines.{lent_values}
use Rattle.sq_results.proofs.standing.add_chunk.Given as goal

abbrev pub invariant-loop-family : goal.invariant-loop-family
invariant-loop-family l = lent_values l.families.items ≡ lent_values l.initial.families.items ++ take l.family-index l.family-items
