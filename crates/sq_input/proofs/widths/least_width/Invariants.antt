use Rattle.std.proofs.Common.{◌≡◌, ℕ, ◌-◌, ◌<◌, ◌≤◌, None}
use Rattle.sq_moves.specs.declared.recon.TheConstants.{MAX_WIDTH}
use Rattle.sq_moves.specs.Between.{recon_fault}
use Rattle.sq_input.proofs.widths.least_width.Given as goal

abbrev pub invariant-loop-low : goal.invariant-loop-low
invariant-loop-low l = record {
  some : 1 ≤ l.low;
  ordered : l.low ≤ l.high;
  within : l.high ≤ MAX_WIDTH;
  does : recon_fault l.old l.new l.high ≡ None;
  fails : (width : ℕ) → width < l.low → recon_fault l.old l.new width ≡ None → ⊥;
}

abbrev pub decreases-loop-low : goal.decreases-loop-low
decreases-loop-low l = l.high - l.low
