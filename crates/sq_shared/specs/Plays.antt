-- What a step on a node's word shows its seat.
use Rattle.std.specs.Prelude.{◌≡◌, ◌≢◌, ℕ, ◌+◌, ◌^◌, ◌<◌, ◌⊎◌, List}
use mathlib.Core.Option.{some}
use lib.ListN.{get_elem?}
use Rattle.atomic_table.specs.Table.{Step, Me}
use Rattle.sq_moves.specs.declared.status.Status.{Status}
use Rattle.sq_moves.specs.declared.status.Status.TheVariants.{Free, Split}
use Rattle.sq_moves.specs.declared.node.TheConstants.{LEAVES}
use Rattle.sq_moves.specs.Node.{parent}
use Rattle.sq_moves.specs.Status.{word_of, pull_of, before}
use Rattle.sq_moves.specs.Tree.{status_at}
use Rattle.sq_shared.specs.declared.view.View.{View}
use Rattle.sq_shared.specs.View.{times_won, won, saw, HasSeen}
use Rattle.sq_shared.specs.Rule.{IsPast, IsTreeOf}

-- a node may have this status: the pull fits in 32 bits, and a leaf isn't split
abbrev pub IsStatusOf : ℕ → Status → Type 0
IsStatusOf n st = (pull_of st < 2 ^ 32) × (st ≡ Split → n < LEAVES)

-- the status `found` is at or past every status that the seat found at the node or brought it to
abbrev pub IsLater : View → ℕ → Status → Type 0
IsLater v n found = ((st : Status) → HasSeen v n st → IsPast st found) × ((st : Status) → 0 < times_won n st v → IsPast st found)

-- the seat knows that the node is split: it found it split, or split it
abbrev pub KnowsSplit : View → ℕ → Type 0
KnowsSplit v n = HasSeen v n Split ⊎ (0 < times_won n Split v)

-- the seat may bring the node to status `st`; for a step from free it has to know that the parent
-- is split
pub record MayBring (v : View) (n : ℕ) (st : Status) : Type 0 where
  pub taken : st ≢ Free
  pub fits : IsStatusOf n st
  pub under : before st ≡ Free → 1 < n → KnowsSplit v (parent n)

-- the node had this status at a moment when the rule held and the seat had this view
abbrev pub Stood : ℕ → Status → View → Type 0
Stood n st v =
    (statuses : List Status) × (views : List View) × (seat : ℕ)
    × IsTreeOf statuses views × (get_elem? views seat ≡ some v) × (st ≡ status_at statuses n)

-- the seat found this status at the node
pub record Found (v : View) (n : ℕ) (st : Status) (w : View) : Type 0 where
  pub after : w ≡ saw v n st
  pub later : IsLater v n st
  pub stood : Stood n st w
  pub fits : IsStatusOf n st

-- the seat brought the node to status `st` from the one before
pub record Won (v : View) (n : ℕ) (st : Status) (w : View) : Type 0 where
  pub after : w ≡ won v n st
  pub later : IsLater v n (before st)
  pub stood : Stood n st w

-- a load of a node's word
abbrev pub Looked : Step (Unit {0}) → Me (Unit {0}) View → ℕ → Me (Unit {0}) View → Type 0
Looked s before_it word after_it =
    (n : ℕ) → n ≡ s.word + 1
    → (found : Status) × (word ≡ word_of found) × (after_it.1 ≡ before_it.1) × Found before_it.0 n found after_it.0

-- an exchange of a node's word, which replaces a status by the next one
abbrev pub Advanced : Step (Unit {0}) → Me (Unit {0}) View → ℕ → Me (Unit {0}) View → Type 0
Advanced s before_it word after_it =
    (n : ℕ) (st : Status) → n ≡ s.word + 1 → s.first ≡ word_of (before st) → s.second ≡ word_of st
    → (found : Status) × (word ≡ word_of found) × (after_it.1 ≡ before_it.1)
    × (((found ≡ before st) × Won before_it.0 n st after_it.0) ⊎ ((found ≢ before st) × Found before_it.0 n found after_it.0))
