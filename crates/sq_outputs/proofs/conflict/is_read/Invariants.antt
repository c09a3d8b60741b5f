use Rattle.std.proofs.Common.{◌≡◌, ℕ, ◌<◌, get_or}
use Rattle.std.specs.Prelude.{String, string_bytes}
use Rattle.std.specs.Global.{Global}
use Rattle.sq_outputs.proofs.conflict.is_read.Given as goal

-- none of the files before is there
abbrev pub invariant-loop-file : goal.invariant-loop-file
invariant-loop-file l = (k : ℕ) (d : String Global) → k < l.file-index → string_bytes (get_or l.read k d) ≡ l.place → ⊥
