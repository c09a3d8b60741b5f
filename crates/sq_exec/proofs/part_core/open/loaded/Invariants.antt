use Rattle.std.proofs.Common.{◌≡◌, map, [], replicate}
use Rattle.sq_exec.proofs.part_core.open.loaded.Given as goal

abbrev pub invariant-loop-made : goal.invariant-loop-made
invariant-loop-made l = map (λ runs. runs.items) l.loaded.items ≡ replicate l._made []
