use Rattle.std.proofs.Common.{◌≡◌, ℕ, not, take}
use Rattle.std.specs.Prelude.{◌&&◌}
use Rattle.sq_exec.specs.Index.{is_among}
use Rattle.sq_exec.proofs.index.remove_all.Given as goal

abbrev pub invariant-loop-number : goal.invariant-loop-number
invariant-loop-number l = (n : ℕ) → is_among l.numbers n ≡ (is_among l.initial.numbers n && not (is_among (take l.number-index l.gone) n))
