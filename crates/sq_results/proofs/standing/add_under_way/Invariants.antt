use Rattle.std.proofs.Common.{◌≡◌, ◌-◌, ◌≤◌, ◌++◌, length, take}
use Rattle.sq_transition.specs.WorldValue.{link_index}
use Rattle.sq_world.specs.Readers.{way_of}
use Rattle.sq_results.specs.RowLines.{lent_values}
use Rattle.sq_results.specs.Standing.{carried}
use Rattle.sq_results.proofs.standing.add_under_way.Given as goal

abbrev pub invariant-loop-chunk : goal.invariant-loop-chunk
invariant-loop-chunk l = record {
  within : l.at ≤ length (way_of l.world (link_index l.world l.src l.dst));
  added : lent_values l.families.items
      ≡ lent_values l.initial.families.items ++ carried (take l.at (way_of l.world (link_index l.world l.src l.dst)));
}

abbrev pub decreases-loop-chunk : goal.decreases-loop-chunk
decreases-loop-chunk l = length (way_of l.world (link_index l.world l.src l.dst)) - l.at
