-- The rule of a tree that several seats share: what holds, between any two steps, of the statuses
-- of its nodes and of the views of all its seats.
use Rattle.std.specs.Prelude.{◌≡◌, ◌≢◌, ℕ, ◌+◌, ◌^◌, ◌<◌, ◌≤◌, true, List, map, length}
use mathlib.Core.Option.{some}
use lib.ListN.{get_elem?}
use Rattle.sq_moves.specs.declared.status.Status.{Status}
use Rattle.sq_moves.specs.declared.status.Status.TheVariants.{Free, Split}
use Rattle.sq_moves.specs.declared.node.TheConstants.{NODES, LEAVES}
use Rattle.sq_moves.specs.Node.{parent}
use Rattle.sq_moves.specs.Status.{word_of, pull_of, is_past}
use Rattle.sq_moves.specs.Tree.{status_at}
use Rattle.sq_shared.specs.declared.view.View.{View}
use Rattle.sq_shared.specs.View.{one_if, times_won, HasSeen, HasNoLists, alive, total}

-- `later` is the same status as `earlier` or comes after it
abbrev pub IsPast : Status → Status → Type 0
IsPast earlier later = is_past earlier later ≡ true

-- the statuses are those of a split tree
pub record IsSplitTree (statuses : List Status) : Type 0 where
  pub count : length statuses ≡ NODES
  -- the pulls have numbers of 32 bits
  pub pulls : (n : ℕ) → pull_of (status_at statuses n) < 2 ^ 32
  pub leaves : (n : ℕ) → LEAVES ≤ n → status_at statuses n ≢ Split
  -- a node that isn't free has a split parent
  pub above : (n : ℕ) → 1 < n → status_at statuses n ≢ Free → status_at statuses (parent n) ≡ Split

-- the statuses are those of a split tree, and they agree with what the seats did and saw
pub record IsTreeOf (statuses : List Status) (views : List View) : Type 0 where
  pub shape : IsSplitTree statuses
  -- over all seats, a node was brought to a status once if it has that status or a later one, and
  -- otherwise never
  pub once : (n : ℕ) (st : Status) → st ≢ Free → total (times_won n st) views ≡ one_if (is_past st (status_at statuses n))
  -- a node is at or past every status that a seat found there
  pub looks : (seat : ℕ) (v : View) → get_elem? views seat ≡ some v → (n : ℕ) (st : Status) → HasSeen v n st
      → IsPast st (status_at statuses n)
  -- a joined seat has no lists
  pub joined : (seat : ℕ) (v : View) → get_elem? views seat ≡ some v → v.spent ≡ true → HasNoLists v
  -- at most one seat is the first; besides it, there are as many unjoined seats as it gave and
  -- hasn't taken
  pub seats : (seat : ℕ) (v : View) → get_elem? views seat ≡ some v → v.first ≡ true
      → (seat ≡ 0) × (total alive views + v.taken ≡ v.given + 1)

-- the same for the words
abbrev pub Kept : List ℕ → List View → Type 0
Kept words views = (statuses : List Status) × (words ≡ map word_of statuses) × IsTreeOf statuses views
