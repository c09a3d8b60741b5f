use Rattle.std.proofs.Common.{◌≡◌, drop}
use Rattle.sq_input.specs.Ranges.{stranger}
use Rattle.sq_input.proofs.faulty_plans.owner_flaw.Given as goal

abbrev pub invariant-loop-range : goal.invariant-loop-range
invariant-loop-range l = (l.at ≡ l.range-index) × (stranger l.partitions l.at (drop l.range-index l.ranges) ≡ stranger l.partitions 0 l.ranges)
