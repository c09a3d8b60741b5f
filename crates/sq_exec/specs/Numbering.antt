-- The arrival numbers of transactions that wait at a partition.
use Rattle.std.specs.Prelude.{◌≡◌, ◌+◌, ◌==◌, ◌++◌, ◌∷◌, [], ℕ, List, if◌then◌else◌, length, position, remove, slice_get, Option, Some, option_and_then}
use Rattle.sq_exec.specs.Waiting.{no_number}
use Rattle.sq_exec.specs.declared.outcome.Outcome.{Outcome}
use Rattle.sq_exec.specs.declared.outcome.Outcome.TheVariants.{Done, Moved, Waits}
use Rattle.sq_exec.specs.CoreValue.{Numbering, PartCoreValue}
use Rattle.sq_exec.specs.Serving.{is_ready_here}

-- this many numbers, from this one on
abbrev pub counted_from : ℕ → List ℕ → List ℕ
counted_from number [] = []
counted_from number (n ∷ numbers) = number ∷ counted_from (number + 1) numbers

-- one more waits, with the next number; if no number is left, all are first renumbered from 0
abbrev pub with_arrival : Numbering → Numbering
with_arrival n =
    if n.next == no_number then record { numbers = counted_from 0 n.numbers ++ length n.numbers ∷ []; next = length n.numbers + 1 }
    else record { numbers = n.numbers ++ n.next ∷ []; next = n.next + 1 }

-- a transaction that waits gets a number
abbrev pub numbered : Outcome → Numbering → Numbering
numbered (Waits seg leaf) n = with_arrival n
numbered (Done reply) n = n
numbered (Moved part) n = n

-- the arrival number of the first transaction that waits for a root key
abbrev pub arrival_number : PartCoreValue → ℕ → Option ℕ
arrival_number p root = option_and_then (slice_get p.numbering.numbers) (position (λ txn. txn.root == root) p.core.waiting)

-- this is the arrival number of the first waiting transaction that is ready
pub record IsFirstReady (p : PartCoreValue) (number : ℕ) : Type 0 where
  pub place : ℕ
  pub first : position (is_ready_here p.core) p.core.waiting ≡ Some place
  pub found : slice_get p.numbering.numbers place ≡ Some number

-- the first waiting transaction that was ready took its arrival number with it, and all others kept
-- theirs
pub record TakesNumber (old new : PartCoreValue) : Type 0 where
  pub place : ℕ
  pub first : position (is_ready_here old.core) old.core.waiting ≡ Some place
  pub rest : new.numbering ≡ record old.numbering { numbers = remove old.numbering.numbers place }
