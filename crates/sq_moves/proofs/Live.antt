-- The nearest live node above a node.
use Rattle.std.proofs.Common.{◌≡◌, inl, inr, ℕ, zero, suc, ◌^◌, ◌<◌, ◌≤◌, true, false, ◌==◌, IsTrue, sym, ◌∙◌, refl, arith, pow-suc}
use Rattle.std.proofs.lemmas.Bool.{or_parts, or_left, cond-true, cond-false, eqb-false, eq-eqb, cases_Bool}
use Rattle.sq_moves.specs.declared.status.Status.{Status}
use Rattle.sq_moves.specs.Node.{is_node, parent}
use Rattle.sq_moves.specs.Status.{is_split, is_live, live_within}
use Rattle.sq_moves.proofs.Nested.{node_bounds, node_within}

-- node 1 is live
first_live : (status : ℕ → Status) (n : ℕ) → n < 2 → 1 ≤ n → is_live status n ≡ true
first_live status n few some = or_left (n == 1) (is_split (status (parent n))) (eq-eqb n 1 (omega arith))

-- looking further than to node 1 changes nothing
pub far_enough : (status : ℕ → Status) (steps more n : ℕ) → IsTrue (is_node n) → n < 2 ^ suc steps → n < 2 ^ suc more → live_within steps status n ≡ live_within more status n
far_enough status zero zero n node few few' = refl
far_enough status zero (suc more) n node few few' =
    sym (cond-true (is_live status n) n (live_within more status (parent n)) (first_live status n few (node_bounds n node).0))
far_enough status (suc steps) zero n node few few' =
    cond-true (is_live status n) n (live_within steps status (parent n)) (first_live status n few' (node_bounds n node).0)
far_enough status (suc steps) (suc more) n node few few' =
    elim (cases_Bool (is_live status n)) [
      | inl live ↦ cond-true (is_live status n) n (live_within steps status (parent n)) live ∙ sym (cond-true (is_live status n) n (live_within more status (parent n)) live)
      | inr dead ↦
          let at = node_bounds n node in
          let other = eqb-false n 1 (or_parts (n == 1) (is_split (status (parent n))) dead).0 in
          let low : 1 < n = omega arith in
          let half = pow-suc 2 (suc steps) in
          let half' = pow-suc 2 (suc more) in
          cond-false (is_live status n) n (live_within steps status (parent n)) dead
          ∙ far_enough status steps more (parent n) (node_within (parent n) (omega arith) (omega arith)) (omega arith) (omega arith)
          ∙ sym (cond-false (is_live status n) n (live_within more status (parent n)) dead)
    ]

-- the nearest live node above a node that isn't live is the one above its parent
pub live_within-parent : (status : ℕ → Status) (n : ℕ) → IsTrue (is_node n) → is_live status n ≡ false → live_within 5 status n ≡ live_within 5 status (parent n)
live_within-parent status n node dead =
    let at = node_bounds n node in
    let other = eqb-false n 1 (or_parts (n == 1) (is_split (status (parent n))) dead).0 in
    let low : 1 < n = omega arith in
    cond-false (is_live status n) n (live_within 4 status (parent n)) dead
    ∙ far_enough status 4 5 (parent n) (node_within (parent n) (omega arith) (omega arith)) (omega arith) (omega arith)

-- the nearest live node above a live node is the node
pub live_within-live : (status : ℕ → Status) (n : ℕ) → is_live status n ≡ true → live_within 5 status n ≡ n
live_within-live status n live = cond-true (is_live status n) n (live_within 4 status (parent n)) live
