-- What calls show that visit several nodes.
use Rattle.std.specs.Prelude.{◌≡◌, ℕ, ◌+◌, ◌-◌, ◌*◌, ◌<◌, ◌≤◌, ◌⊎◌, Bool, true, false, IsTrue, List, [], ◌∷◌, ◌++◌, length, Contains, Option, Some, None}
use Rattle.sq_moves.specs.declared.status.Status.{Status}
use Rattle.sq_moves.specs.declared.status.Status.TheVariants.{Free, Split, Claimed, Partial, Complete}
use Rattle.sq_moves.specs.declared.node.TheConstants.{LEAVES}
use Rattle.sq_moves.specs.Node.{span, first_leaf, is_above, is_under, node_above}
use Rattle.sq_shared.specs.declared.view.View.{View}
use Rattle.sq_shared.specs.declared.tree.walks.LeafClaim.{LeafClaim}
use Rattle.sq_shared.specs.declared.tree.walks.LeafClaim.TheVariants as claim
use Rattle.sq_shared.specs.Plays.{IsLater, Found, Won}

-- a pull has the node: it is claimed, or further
abbrev pub is_taken : Status → Bool
is_taken Free = false
is_taken Split = false
is_taken (Claimed pull) = true
is_taken (Partial pull) = true
is_taken (Complete pull) = true

-- the seat's lists gained exactly these splits and looks, the newest first; each is at or past all
-- that the seat knew of the node
pub record Added (v : View) (splits : List ℕ) (looks : List (ℕ × Status)) (w : View) : Type 0 where
  pub after : w ≡ record v { split = splits ++ v.split; looked = looks ++ v.looked }
  pub splits_later : (n : ℕ) → Contains splits n → IsLater v n Free
  pub looks_later : (n : ℕ) (st : Status) → Contains looks (n, st) → IsLater v n st

-- the node is more than `levels` levels above the leaf's own
abbrev pub IsPassedAt : ℕ → ℕ → ℕ → Type 0
IsPassedAt leaf levels n = (k : ℕ) × (levels < k) × (k ≤ 5) × (n ≡ node_above leaf k)

-- each node more than `levels` levels above the leaf's own was split or found split, and no other
-- node was
pub record Passed (leaf levels : ℕ) (splits : List ℕ) (looks : List (ℕ × Status)) : Type 0 where
  pub each : (k : ℕ) → levels < k → k ≤ 5 → Contains splits (node_above leaf k) ⊎ Contains looks (node_above leaf k, Split)
  pub splits_only : (n : ℕ) → Contains splits n → IsPassedAt leaf levels n
  pub looks_only : (n : ℕ) (st : Status) → Contains looks (n, st) → IsPassedAt leaf levels n × (st ≡ Split)
  pub count : length splits + length looks + levels ≡ 5

-- the walk went from node 1 down to the node `levels` levels above the leaf's own, which it hasn't
-- looked at yet
abbrev pub WalkedTo : ℕ → ℕ → View → View → Type 0
WalkedTo leaf levels v w =
    (splits : List ℕ) × (looks : List (ℕ × Status)) × Passed leaf levels splits looks × Added v splits looks w

-- a walk from node 1 to a leaf ends with a claim of the leaf's node, or at the first node that a
-- pull has
abbrev pub WalkedLeaf : ℕ → ℕ → View → View → LeafClaim → Type 0
WalkedLeaf leaf pull v w (claim.Claimed n) = (n ≡ LEAVES + leaf) × ((u : View) × WalkedTo leaf 0 v u × Won u n (Claimed pull) w)
WalkedLeaf leaf pull v w (claim.Held n st) =
    IsTrue (is_above n leaf) × IsTrue (is_taken st)
    × ((levels : ℕ) × (u : View) × (n ≡ node_above leaf levels) × WalkedTo leaf levels v u × Found u n st w)

-- the leaf is under a node that was found taken
abbrev pub HeldAbove : List (ℕ × Status) → ℕ → Type 0
HeldAbove looks leaf = (n : ℕ) × (st : Status) × Contains looks (n, st) × IsTrue (is_taken st) × IsTrue (is_above n leaf)

-- how many nodes there are from `n` downward
abbrev pub nodes_under : ℕ → ℕ
nodes_under n = 2 * span n - 1

-- a search from `n` downward, in order of the leaves, finds no node to claim if each leaf is under
-- a taken node; otherwise it claims a node, and each leaf before it is under a taken node
abbrev pub Searched : ℕ → ℕ → View → View → Option ℕ → Type 0
Searched n pull v w None =
    (looks : List (ℕ × Status)) × Added v [] looks w × (length looks ≤ nodes_under n)
    × ((leaf : ℕ) → IsTrue (is_above n leaf) → HeldAbove looks leaf)
Searched n pull v w (Some m) =
    IsTrue (is_under n m)
    × ((looks : List (ℕ × Status)) × (u : View) × Added v [] looks u × Won u m (Claimed pull) w
    × (length looks + 1 ≤ nodes_under n)
    × ((leaf : ℕ) → first_leaf n ≤ leaf → leaf < first_leaf m → HeldAbove looks leaf))

-- the seat claimed these nodes, and began and completed none
pub record ClaimedOnly (v : View) (claims : List (ℕ × ℕ)) (w : View) : Type 0 where
  pub claimed : w.claimed ≡ claims ++ v.claimed
  pub begun : w.begun ≡ v.begun
  pub completed : w.completed ≡ v.completed

-- what a walk to a leaf claimed
abbrev pub claims_of_walk : ℕ → LeafClaim → List (ℕ × ℕ)
claims_of_walk pull (claim.Claimed n) = (n, pull) ∷ []
claims_of_walk pull (claim.Held n st) = []

-- what a search claimed
abbrev pub claims_of_search : ℕ → Option ℕ → List (ℕ × ℕ)
claims_of_search pull None = []
claims_of_search pull (Some n) = (n, pull) ∷ []
