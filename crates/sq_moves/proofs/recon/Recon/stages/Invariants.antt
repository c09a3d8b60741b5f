use Rattle.std.proofs.Common.{◌≡◌, ◌+◌, ◌≤◌, max, drop, length}
use Rattle.sq_moves.specs.ReconValue.{stages_in, stages}
use Rattle.sq_moves.proofs.recon.Recon.stages.Given as goal

-- the most so far and what the ranges to come need are all
abbrev pub invariant-loop-range : goal.invariant-loop-range
invariant-loop-range l = record {
  told : max l.most (stages_in l.self (drop l.range-index l.range-items)) ≡ stages l.self;
  some : 1 ≤ l.most;
  few : l.most ≤ length l.range-items + 1;
}
