use Rattle.std.proofs.Common.{◌≡◌, ◌++◌}
use Rattle.std.specs.List.{flat_map, range_with_len}
use Rattle.sq_results.specs.RowLines.{lent_values}
use Rattle.sq_results.specs.Standing.{source_families}
use Rattle.sq_results.proofs.standing.add_sources.Given as goal

abbrev pub invariant-loop-src : goal.invariant-loop-src
invariant-loop-src l =
    lent_values l.families.items ≡ lent_values l.initial.families.items ++ flat_map (source_families l.world) (range_with_len 0 l.src)
