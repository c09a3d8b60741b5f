use Rattle.std.proofs.Common.{◌≡◌, ℕ, ◌||◌, take}
use Rattle.sq_exec.specs.Index.{is_among}
use Rattle.sq_exec.proofs.index.add_all.Given as goal

abbrev pub invariant-loop-at : goal.invariant-loop-at
invariant-loop-at l = (n : ℕ) → is_among l.numbers n ≡ (is_among l.initial.numbers n || is_among (take l.at l.lacking) n)
