-- The invariant of the tree nodes that a partition began, and of the leaves that it gave up.
use Rattle.std.specs.Prelude.{◌≡◌, ℕ, ◌<◌, Bool, true, List, Contains}
use Rattle.std.specs.List.{list_any}
use Rattle.sq_moves.specs.declared.node.TheConstants.{LEAVES}
use Rattle.sq_moves.specs.declared.status.Status.{Status}
use Rattle.sq_moves.specs.Node.{is_node, is_above}
use Rattle.sq_moves.specs.Status.{is_begun}
use Rattle.sq_moves.specs.OpeningValue.{OpeningValue}
use Rattle.sq_exec.specs.GivenUp.{is_given_up}
use Rattle.sq_model.specs.Place.{extent_of, is_within}
use Rattle.sq_node_model.specs.Stages.{is_on_link_in}

-- the tree node is one of these, which have a pull each
abbrev pub IsNamed : List (ℕ × ℕ) → ℕ → Type 0
IsNamed entries n = (pull : ℕ) × Contains entries (n, pull)

-- one of these tree nodes is above the leaf
abbrev pub is_leaf_under : List (ℕ × ℕ) → ℕ → Bool
is_leaf_under entries leaf = list_any (λ entry. is_above entry.0 leaf) entries

-- the tree node is begun, and the root key is one of its keys of the segment
pub record IsBegunOver (o : OpeningValue) (status : ℕ → Status) (seg root n : ℕ) : Type 0 where
  pub node : is_node n ≡ true
  pub within : is_within (extent_of o seg n) root ≡ true
  pub begun : is_begun (status n) ≡ true

-- the begun nodes are nodes of segments of the stage that leave the partition, no two of one
-- segment share a key, and exactly their leaves are given up
pub record BegunHolds (o : OpeningValue) (i part : ℕ) (begun : ℕ → List (ℕ × ℕ)) (given_up : ℕ → List Bool) : Type 0 where
  pub outward : (seg n : ℕ) → IsNamed (begun seg) n → (dst : ℕ) × (is_on_link_in o i part dst seg ≡ true)
  pub nodes : (seg n : ℕ) → IsNamed (begun seg) n → is_node n ≡ true
  pub apart : (root seg n m : ℕ) → IsNamed (begun seg) n → IsNamed (begun seg) m
      → is_within (extent_of o seg n) root ≡ true → is_within (extent_of o seg m) root ≡ true → n ≡ m
  pub leaves : (seg leaf : ℕ) → leaf < LEAVES → is_given_up (given_up seg) leaf ≡ is_leaf_under (begun seg) leaf
