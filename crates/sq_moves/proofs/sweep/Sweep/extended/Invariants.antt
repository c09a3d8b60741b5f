use Rattle.std.proofs.Common.{ℕ, ◌≤◌}
use Rattle.sq_plan.specs.PlanValue.{PlanValue}
use Rattle.sq_moves.specs.Sweep.{Reaches, left}
use Rattle.sq_moves.proofs.sweep.Sweep.extended.Given as goal

abbrev pub invariant-loop-piece : goal.invariant-loop-piece
invariant-loop-piece l = record {
  reaches : (old new : PlanValue) (from : ℕ) → Reaches old new from l.initial.self l.initial.run → Reaches old new from l.self l.run;
  fewer : left l.self ≤ left l.initial.self;
}

abbrev pub decreases-loop-piece : goal.decreases-loop-piece
decreases-loop-piece l = left l.self
