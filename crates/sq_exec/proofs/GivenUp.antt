-- Leaves that are given up.
use Rattle.std.proofs.Common.{◌≡◌, ℕ, ◌+◌, ◌<◌, ◌||◌, Bool, false, List, map, length, get_or, sym, ap, ◌∙◌, arith}
use Rattle.std.specs.Prelude.{◌&&◌, nat_le, nat_lt}
use Rattle.std.specs.List.{range_with_len}
use Rattle.std.proofs.lemmas.List.{same_lists, get_or_default, length-map}
use Rattle.std.proofs.lemmas.List.FromFn.{get_or-map-range_with_len, length-range_with_len}
use Rattle.sq_moves.specs.Node.{is_above, first_leaf, span}
use Rattle.sq_exec.specs.GivenUp.{is_given_up, given_up_with}

-- a list is the values of a function that it has at each place
same_as_map : (f : ℕ → Bool) (n : ℕ) (xs : List Bool) → length xs ≡ n → ((k : ℕ) → k < n → get_or xs k false ≡ f k) → xs ≡ map f (range_with_len 0 n)
same_as_map f n xs len each =
    same_lists xs (map f (range_with_len 0 n)) (len ∙ sym (length-map (range_with_len 0 n) f ∙ length-range_with_len 0 n)) (λ k d lt.
    let low : k < n = omega (arith, lt, len) in
    get_or_default xs k d false lt ∙ each k low ∙ sym (get_or-map-range_with_len f 0 n k k d low (omega arith)))

-- the leaves of a node are given up besides those that were
pub given_up_too : (leaves after : List Bool) (node first end : ℕ) → length after ≡ 32 → first ≡ first_leaf node → end ≡ first + span node
    → ((k : ℕ) → k < 32 → is_given_up after k ≡ (is_given_up leaves k || (nat_le first k && nat_lt k end))) → after ≡ given_up_with leaves node
given_up_too leaves after node first end len first_is end_is each =
    same_as_map (λ leaf. is_given_up leaves leaf || is_above node leaf) 32 after len (λ k lt.
    each k lt ∙ (λ i. is_given_up leaves k || (nat_le (first_is i) k && nat_lt k ((end_is ∙ ap (λ n. n + span node) first_is) i))))

-- a leaf is given up that was, or that is one of the node's
pub given_up-with : (leaves : List Bool) (node leaf : ℕ) → leaf < 32 → is_given_up (given_up_with leaves node) leaf ≡ (is_given_up leaves leaf || is_above node leaf)
given_up-with leaves node leaf lt = get_or-map-range_with_len (λ l. is_given_up leaves l || is_above node l) 0 32 leaf leaf false lt (omega arith)
