use Rattle.std.proofs.Common.{◌≡◌, ℕ, ◌<◌, get_or}
use Rattle.std.specs.Prelude.{string_bytes}
use Rattle.sq_outputs.specs.declared.conflict.Output.{Output}
use Rattle.sq_outputs.proofs.conflict.is_written.Given as goal

-- none of the files before is there
abbrev pub invariant-loop-output : goal.invariant-loop-output
invariant-loop-output l = (k : ℕ) (d : Output) → k < l.output-index → string_bytes (get_or l.outputs k d).place ≡ l.place → ⊥
