use Rattle.std.proofs.Common.{take}
use Rattle.sq_store.specs.InOrder.{AreKeyed}
use Rattle.sq_store.proofs.family_run.are_keyed.Given as goal

-- so are those so far
abbrev pub invariant-loop-family : goal.invariant-loop-family
invariant-loop-family l = AreKeyed (take l.family-index l.families)
