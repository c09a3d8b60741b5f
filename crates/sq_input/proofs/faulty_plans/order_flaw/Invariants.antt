use Rattle.std.proofs.Common.{◌≡◌, drop}
use Rattle.sq_input.specs.Ranges.{gap}
use Rattle.sq_input.proofs.faulty_plans.order_flaw.Given as goal

abbrev pub invariant-loop-range : goal.invariant-loop-range
invariant-loop-range l = (l.at ≡ l.range-index) × (gap l.at l.end (drop l.range-index l.ranges) ≡ gap 0 0 l.ranges)
