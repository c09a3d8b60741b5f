use Rattle.std.proofs.Common.{◌≡◌}
use Rattle.sq_input.proofs.recalling.Recalling.keep_plans.Given as goal

-- the reader behind it stays as it was
abbrev pub invariant-loop-byte : goal.invariant-loop-byte
invariant-loop-byte g l = l.self.inner ≡ l.initial.self.inner
