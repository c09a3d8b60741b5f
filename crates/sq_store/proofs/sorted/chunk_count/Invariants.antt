use Rattle.std.proofs.Common.{◌≡◌, ◌+◌, drop}
use Rattle.sq_store.specs.Counting.{fitting}
use Rattle.sq_store.proofs.sorted.chunk_count.Given as goal

-- what fits in all is what was passed, and what fits of the rest
abbrev pub invariant-loop-at : goal.invariant-loop-at
invariant-loop-at l = fitting l.initial.room l.rest ≡ l.at + fitting l.room (drop l.at l.rest)
