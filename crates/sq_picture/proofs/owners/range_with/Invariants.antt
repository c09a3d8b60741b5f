use Rattle.std.proofs.Common.{◌≡◌, drop}
use Rattle.std.specs.Prelude.{find}
use Rattle.sq_moves.specs.ReconValue.{has_key}
use Rattle.sq_picture.proofs.owners.range_with.Given as goal

-- no range before has the root key
abbrev pub invariant-loop-range : goal.invariant-loop-range
invariant-loop-range l = find (λ range. has_key range l.key) l.ranges ≡ find (λ range. has_key range l.key) (drop l.range-index l.ranges)
