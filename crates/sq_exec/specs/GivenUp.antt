-- The leaves of a segment that its source gave up.
use Rattle.std.specs.Prelude.{ℕ, Bool, false, ◌||◌, List, map, replicate, slice_index_or}
use Rattle.std.specs.List.{range_with_len}
use Rattle.sq_moves.specs.declared.node.TheConstants.{LEAVES}
use Rattle.sq_moves.specs.Node.{is_above}

abbrev pub none_given_up : List Bool
none_given_up = replicate LEAVES false

-- the leaf was given up
abbrev pub is_given_up : List Bool → ℕ → Bool
is_given_up leaves leaf = slice_index_or leaves leaf false

-- the leaves that are given up once one more node is begun
abbrev pub given_up_with : List Bool → ℕ → List Bool
given_up_with leaves node = map (λ leaf. is_given_up leaves leaf || is_above node leaf) (range_with_len 0 LEAVES)
