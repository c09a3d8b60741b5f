use Rattle.std.proofs.Common.{◌≡◌, ◌-◌, take}
use Rattle.std.specs.Prelude.{sum_by}
use Rattle.sq_moves.specs.declared.recon.Range.{Range}
use Rattle.sq_picture.specs.Sizes.{in_64_bits}
use Rattle.sq_picture.proofs.proposal.keys_of.Given as goal

-- they are those of the ranges so far
abbrev pub invariant-loop-range : goal.invariant-loop-range
invariant-loop-range l = l.keys ≡ in_64_bits (sum_by (λ (range : Range). range.hi - range.lo) (take l.range-index l.range-items))
