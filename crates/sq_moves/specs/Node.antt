-- The nodes of a segment's split tree: 1 to 63, where 2n and 2n + 1 are the halves of n, and the
-- nodes 32 to 63 are the leaves 0 to 31.
use Rattle.std.specs.Prelude.{ℕ, Bool, ◌+◌, ◌-◌, ◌*◌, ◌/◌, ◌^◌, nat_lt, nat_le, ◌&&◌, if◌then◌else◌}
use Rattle.sq_moves.specs.declared.node.TheConstants.{NODES, LEAVES}

-- there is such a node
abbrev pub is_node : ℕ → Bool
is_node n = nat_le 1 n && nat_le n NODES

-- a leaf has no halves
abbrev pub is_leaf : ℕ → Bool
is_leaf n = nat_le LEAVES n

-- the node that n is a half of
abbrev pub parent : ℕ → ℕ
parent n = n / 2

-- how many leaves a node covers
abbrev pub span : ℕ → ℕ
span n =
    if nat_lt n 2 then 32 else if nat_lt n 4 then 16 else if nat_lt n 8 then 8 else if nat_lt n 16 then 4 else if nat_lt n 32 then 2 else 1

-- the first leaf that a node covers
abbrev pub first_leaf : ℕ → ℕ
first_leaf n = n * span n - LEAVES

-- the node covers the leaf
abbrev pub is_above : ℕ → ℕ → Bool
is_above n leaf = nat_le (first_leaf n) leaf && nat_lt leaf (first_leaf n + span n)

-- the node `levels` levels above the leaf's own
abbrev pub node_above : ℕ → ℕ → ℕ
node_above leaf levels = (LEAVES + leaf) / 2 ^ levels

-- each leaf of m is one of n
abbrev pub is_under : ℕ → ℕ → Bool
is_under n m = nat_le (first_leaf n) (first_leaf m) && nat_le (first_leaf m + span m) (first_leaf n + span n)
