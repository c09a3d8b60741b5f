use Rattle.std.proofs.Common.{◌≡◌, ◌≤◌, drop, get_or, length, false}
use Rattle.sq_moves.specs.declared.stage.TheConstants.{PART_NUMBERS}
use Rattle.sq_moves.specs.ReconValue.{place_on}
use Rattle.sq_moves.proofs.Places.{ahead}
use Rattle.sq_moves.proofs.stage.place_on.Given as goal

-- what lies ahead comes to the place, and the partition sought wasn't passed
abbrev pub invariant-loop-range : goal.invariant-loop-range
invariant-loop-range l = record {
  found : ahead l.seen l.place l.src l.dst (drop l.range-index l.ranges) ≡ place_on l.ranges l.src l.dst;
  unseen : get_or l.seen l.dst false ≡ false;
  size : length l.seen ≡ PART_NUMBERS;
  few : l.place ≤ l.range-index;
}
