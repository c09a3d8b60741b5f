use Rattle.std.proofs.Common.{ℕ, ◌<◌, get_or}
use Rattle.sq_outputs.specs.declared.conflict.Output.{Output}
use Rattle.sq_outputs.specs.Conflicts.{IsInUse}
use Rattle.sq_outputs.proofs.conflict.conflict_among.Given as goal

-- none of the files before is read, and each is another one
abbrev pub invariant-loop-at : goal.invariant-loop-at
invariant-loop-at l = (k : ℕ) → k < l.at → (any : Output) → ¬ IsInUse l.read l.outputs k (get_or l.outputs k any)
