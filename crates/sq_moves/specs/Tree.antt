-- The tree of one segment: the statuses of its nodes, as a list from node 1 on or looked up by
-- node.
use Rattle.std.specs.Prelude.{◌≡◌, ℕ, zero, suc, ◌-◌, true, false, List, [], ◌∷◌, slice_index_or}
use Rattle.sq_moves.specs.declared.status.Status.{Status}
use Rattle.sq_moves.specs.declared.status.Status.TheVariants.{Free}
use Rattle.sq_moves.specs.declared.status.Reading.{Reading}
use Rattle.sq_moves.specs.Node.{is_node, is_leaf, is_above, parent}
use Rattle.sq_moves.specs.Status.{is_free, is_split, is_live, reading_of}

-- the status of a node; free if it isn't in the list
abbrev pub status_at : List Status → ℕ → Status
status_at sts n = slice_index_or (Free ∷ sts) n Free

-- the list with this status at this place, counted from 0; a shorter list is filled up with free
-- ones
abbrev pub placed : List Status → ℕ → Status → List Status
placed [] zero st = st ∷ []
placed [] (suc place) st = Free ∷ placed [] place st
placed (first ∷ rest) zero st = st ∷ rest
placed (first ∷ rest) (suc place) st = first ∷ placed rest place st

-- the list in which node n has this status, and each other node its old one
abbrev pub with_status : List Status → ℕ → Status → List Status
with_status sts n st = placed sts (n - 1) st

-- what successful steps from a free tree lead to: a node that isn't free is live, and no leaf is
-- split
pub record IsGrown (status : ℕ → Status) : Type 0 where
  pub live : (n : ℕ) → is_free (status n) ≡ false → is_live status n ≡ true
  pub leaves : (n : ℕ) → is_leaf n ≡ true → is_split (status n) ≡ false

-- the one node above a leaf that is live and isn't split
pub record IsCovering (status : ℕ → Status) (leaf n : ℕ) : Type 0 where
  pub node : is_node n ≡ true
  pub above : is_above n leaf ≡ true
  pub live : is_live status n ≡ true
  pub whole : is_split (status n) ≡ false
  pub only : (m : ℕ) → is_node m ≡ true → is_above m leaf ≡ true → is_live status m ≡ true → is_split (status m) ≡ false → m ≡ n

-- the rule of readings: a live node by its status, a split node by its halves, and a node that
-- isn't live as its parent
pub record IsReading (status : ℕ → Status) (reads : ℕ → Reading) : Type 0 where
  pub live : (n : ℕ) → is_node n ≡ true → is_live status n ≡ true → reads n ≡ reading_of reads n (status n)
  pub rest : (n : ℕ) → is_node n ≡ true → is_live status n ≡ false → reads n ≡ reads (parent n)
