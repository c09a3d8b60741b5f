-- Statuses, their words, and the readings of nodes.
use Rattle.std.specs.Prelude.{ℕ, zero, suc, Bool, true, false, ◌+◌, ◌*◌, ◌==◌, ◌||◌, if◌then◌else◌}
use Rattle.sq_moves.specs.declared.status.Status.{Status}
use Rattle.sq_moves.specs.declared.status.Status.TheVariants.{Free, Split, Claimed, Partial, Complete}
use Rattle.sq_moves.specs.declared.status.Reading.{Reading}
use Rattle.sq_moves.specs.declared.status.Reading.TheVariants as reads
use Rattle.sq_moves.specs.Node.{parent, is_above}

-- the word of a status
abbrev pub word_of : Status → ℕ
word_of Free = 0
word_of Split = 1
word_of (Claimed p) = 2 + 8 * p
word_of (Partial p) = 3 + 8 * p
word_of (Complete p) = 4 + 8 * p

-- the pull that a status names; 0 if it names none
abbrev pub pull_of : Status → ℕ
pull_of Free = 0
pull_of Split = 0
pull_of (Claimed p) = p
pull_of (Partial p) = p
pull_of (Complete p) = p

-- the status that a node has right before it gets this one
abbrev pub before : Status → Status
before Free = Free
before Split = Free
before (Claimed p) = Free
before (Partial p) = Claimed p
before (Complete p) = Partial p

-- the second status is the first or comes after it: free comes before all, and claimed, partial,
-- complete of one pull come in this order
abbrev pub is_past : Status → Status → Bool
is_past Free _ = true
is_past Split Split = true
is_past (Claimed p) (Claimed q) = p == q
is_past (Claimed p) (Partial q) = p == q
is_past (Claimed p) (Complete q) = p == q
is_past (Partial p) (Partial q) = p == q
is_past (Partial p) (Complete q) = p == q
is_past (Complete p) (Complete q) = p == q
is_past _ _ = false

abbrev pub is_free : Status → Bool
is_free Free = true
is_free _ = false

abbrev pub is_split : Status → Bool
is_split Split = true
is_split _ = false

-- a pull asked for the node, and its rows are at the source
abbrev pub is_claimed : Status → Bool
is_claimed (Claimed p) = true
is_claimed _ = false

-- its rows are on their way
abbrev pub is_partial : Status → Bool
is_partial (Partial p) = true
is_partial _ = false

-- all its rows are at the destination
abbrev pub is_complete : Status → Bool
is_complete (Complete p) = true
is_complete _ = false

-- the source gave the node up
abbrev pub is_begun : Status → Bool
is_begun (Partial p) = true
is_begun (Complete p) = true
is_begun _ = false

-- a node is live if it is the whole segment or a half of a split node
abbrev pub is_live : (ℕ → Status) → ℕ → Bool
is_live status n = (n == 1) || is_split (status (parent n))

-- the common reading of two halves
abbrev pub both : Reading → Reading → Reading
both reads.Complete reads.Complete = reads.Complete
both reads.NotStarted reads.NotStarted = reads.NotStarted
both _ _ = reads.Partial

-- the reading of a live node with this status; `below` has the readings of its halves
abbrev pub reading_of : (ℕ → Reading) → ℕ → Status → Reading
reading_of below n Free = reads.NotStarted
reading_of below n (Claimed p) = reads.NotStarted
reading_of below n (Partial p) = reads.Partial
reading_of below n (Complete p) = reads.Complete
reading_of below n Split = both (below (2 * n)) (below (2 * n + 1))

-- the reading of a live node whose leaves are at most `depth` halvings below it
abbrev pub reading_within : ℕ → (ℕ → Status) → ℕ → Reading
reading_within zero status n = reading_of (λ _. reads.Partial) n (status n)
reading_within (suc depth) status n = reading_of (reading_within depth status) n (status n)

-- the nearest live node from n upward, in at most `steps` steps
abbrev pub live_within : ℕ → (ℕ → Status) → ℕ → ℕ
live_within zero status n = n
live_within (suc steps) status n = if is_live status n then n else live_within steps status (parent n)

-- the reading of a node; a node that isn't live has that of the nearest live node above it
abbrev pub reading : (ℕ → Status) → ℕ → Reading
reading status n = reading_within 5 status (live_within 5 status n)

-- the live node above a leaf that isn't split, found from n downward in at most `steps` steps
abbrev pub covering_within : ℕ → (ℕ → Status) → ℕ → ℕ → ℕ
covering_within zero status leaf n = n
covering_within (suc steps) status leaf n =
    if is_split (status n) then covering_within steps status leaf (if is_above (2 * n) leaf then 2 * n else 2 * n + 1) else n

-- the live node above a leaf that isn't split
abbrev pub covering : (ℕ → Status) → ℕ → ℕ
covering status leaf = covering_within 5 status leaf 1
