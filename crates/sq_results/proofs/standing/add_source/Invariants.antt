use Rattle.std.proofs.Common.{◌≡◌, ◌++◌}
use Rattle.std.specs.List.{flat_map, range_with_len}
use Rattle.sq_results.specs.RowLines.{lent_values}
use Rattle.sq_results.specs.Standing.{link_families}
use Rattle.sq_results.proofs.standing.add_source.Given as goal

abbrev pub invariant-loop-dst : goal.invariant-loop-dst
invariant-loop-dst l =
    lent_values l.families.items ≡ lent_values l.initial.families.items ++ flat_map (link_families l.world l.src) (range_with_len 0 l.dst)
