-- Two nodes are nested, or their leaves are apart.
use Rattle.std.proofs.Common.{◌≡◌, ◌≢◌, ◌⊎◌, inl, inr, ℕ, zero, suc, ◌+◌, ◌-◌, ◌*◌, ◌<◌, ◌≤◌, Bool, true, false, ◌==◌, ◌&&◌, ◌||◌, nat_lt, nat_le, if◌then◌else◌, IsTrue, refl, sym, ◌∙◌, subst, arith, true≢false}
use Rattle.std.proofs.lemmas.Bool.{and_parts, or_cases, and_from, ltb-true, leb-true, lt-ltb, le-leb, cond-true, cond-false, eqb-true, leb-false, cases_Bool}
use Rattle.std.proofs.lemmas.Bool.Decides.{nat_tests}
use Rattle.sq_moves.specs.Node.{is_node, is_leaf, parent, span, first_leaf, is_above, is_under, node_above}

-- a test holds of each number below a bound
abbrev all_below : (ℕ → Bool) → ℕ → Bool
all_below test zero = true
all_below test (suc n) = test n && all_below test n

all_below_at : (test : ℕ → Bool) (bound n : ℕ) → all_below test bound ≡ true → n < bound → test n ≡ true
all_below_at test zero n all below = absurd (omega arith)
all_below_at test (suc bound) n all below =
    let parts = and_parts (test bound) (all_below test bound) all in
    elim (cases_Bool (n == bound)) [
      | inl same ↦ subst (λ (k : ℕ). test k ≡ true) (sym (eqb-true n bound same)) parts.0
      | inr other ↦ all_below_at test bound n parts.1 (grind (arith, nat_tests))
    ]

-- the leaves of one node come before those of another
abbrev is_before : ℕ → ℕ → Bool
is_before n m = nat_le (first_leaf n + span n) (first_leaf m)

-- how two nodes lie: one that is under another is that one, or its parent is under it; and two that aren't nested are apart
abbrev lies : ℕ → ℕ → Bool
lies n m = if is_under n m then (n == m) || (nat_lt 1 m && is_under n (parent m)) else (is_under m n || (is_before n m || is_before m n))

every_pair : all_below (λ n. all_below (λ m. lies (suc n) (suc m)) 63) 63 ≡ true
every_pair = refl

pub node_bounds : (n : ℕ) → IsTrue (is_node n) → (1 ≤ n) × (n ≤ 63)
node_bounds n node = (grind (arith, nat_tests), grind (arith, nat_tests))

pub node_within : (n : ℕ) → 1 ≤ n → n ≤ 63 → IsTrue (is_node n)
node_within n low high = and_from (nat_le 1 n) (nat_le n 63) (le-leb 1 n low) (le-leb n 63 high)

-- the halves of a node that isn't a leaf are nodes
pub low_node : (n : ℕ) → IsTrue (is_node n) → is_leaf n ≡ false → IsTrue (is_node (2 * n))
low_node n node inner = let at = node_bounds n node in let high = leb-false 32 n inner in node_within (2 * n) (omega arith) (omega arith)

pub high_node : (n : ℕ) → IsTrue (is_node n) → is_leaf n ≡ false → IsTrue (is_node (2 * n + 1))
high_node n node inner = let at = node_bounds n node in let high = leb-false 32 n inner in node_within (2 * n + 1) (omega arith) (omega arith)

next_place : (n : ℕ) → 1 ≤ n → suc (n - 1) ≡ n
next_place n low = omega arith

lies_so : (n m : ℕ) → IsTrue (is_node n) → IsTrue (is_node m) → lies n m ≡ true
lies_so n m node other =
    subst (λ (k : ℕ). lies n k ≡ true) (next_place m low') (subst (λ (k : ℕ). lies k (suc (m - 1)) ≡ true) (next_place n low) cell)
  where
    low : 1 ≤ n
    low = (node_bounds n node).0

    low' : 1 ≤ m
    low' = (node_bounds m other).0

    before : n - 1 < 63
    before = let high = (node_bounds n node).1 in omega arith

    before' : m - 1 < 63
    before' = let high = (node_bounds m other).1 in omega arith

    row : all_below (λ j. lies (suc (n - 1)) (suc j)) 63 ≡ true
    row = all_below_at (λ k. all_below (λ j. lies (suc k) (suc j)) 63) 63 (n - 1) every_pair before

    cell : lies (suc (n - 1)) (suc (m - 1)) ≡ true
    cell = all_below_at (λ j. lies (suc (n - 1)) (suc j)) 63 (m - 1) row before'

-- what is under a node and isn't the node has a parent, which is under it
pub under_parent : (n m : ℕ) → IsTrue (is_node n) → IsTrue (is_node m) → is_under n m ≡ true → n ≢ m → (1 < m) × (is_under n (parent m) ≡ true)
under_parent n m node other under differ =
    let found = sym (cond-true (is_under n m) ((n == m) || (nat_lt 1 m && is_under n (parent m))) (is_under m n || (is_before n m || is_before m n)) under) ∙ lies_so n m node other in
    elim (or_cases (n == m) (nat_lt 1 m && is_under n (parent m)) found) [
      | inl same ↦ absurd (differ (eqb-true n m same))
      | inr below ↦ let parts = and_parts (nat_lt 1 m) (is_under n (parent m)) below in (ltb-true 1 m parts.0, parts.1)
    ]

-- the leaves of two nodes that aren't nested are apart
pub apart : (n m : ℕ) → IsTrue (is_node n) → IsTrue (is_node m) → is_under n m ≡ false → is_under m n ≡ false → (first_leaf n + span n ≤ first_leaf m) ⊎ (first_leaf m + span m ≤ first_leaf n)
apart n m node other not_under not_above =
    let found = sym (cond-false (is_under n m) ((n == m) || (nat_lt 1 m && is_under n (parent m))) (is_under m n || (is_before n m || is_before m n)) not_under) ∙ lies_so n m node other in
    elim (or_cases (is_under m n) (is_before n m || is_before m n) found) [
      | inl above ↦ absurd (true≢false (sym above ∙ not_above))
      | inr either ↦
          elim (or_cases (is_before n m) (is_before m n) either) [
            | inl first ↦ inl (leb-true (first_leaf n + span n) (first_leaf m) first)
            | inr second ↦ inr (leb-true (first_leaf m + span m) (first_leaf n) second)
          ]
    ]

-- that a node is above a leaf, as bounds
pub above_bounds : (n leaf : ℕ) → IsTrue (is_above n leaf) → (first_leaf n ≤ leaf) × (leaf < first_leaf n + span n)
above_bounds n leaf above =
    let parts = and_parts (nat_le (first_leaf n) leaf) (nat_lt leaf (first_leaf n + span n)) above in
    (leb-true (first_leaf n) leaf parts.0, ltb-true leaf (first_leaf n + span n) parts.1)

pub above_within : (n leaf : ℕ) → first_leaf n ≤ leaf → leaf < first_leaf n + span n → IsTrue (is_above n leaf)
above_within n leaf low high =
    and_from (nat_le (first_leaf n) leaf) (nat_lt leaf (first_leaf n + span n)) (le-leb (first_leaf n) leaf low) (lt-ltb leaf (first_leaf n + span n) high)

pub no_leaf_of_both : (n m leaf : ℕ) → IsTrue (is_node n) → IsTrue (is_node m) → is_under n m ≡ false → is_under m n ≡ false → IsTrue (is_above n leaf) → IsTrue (is_above m leaf) → ⊥
no_leaf_of_both n m leaf node other not_under not_above above above' =
    disagree (first_leaf n) (first_leaf m) (span n) (span m) leaf (above_bounds n leaf above) (above_bounds m leaf above') (apart n m node other not_under not_above)
  where
    disagree : (a b s t x : ℕ) → (a ≤ x) × (x < a + s) → (b ≤ x) × (x < b + t) → (a + s ≤ b) ⊎ (b + t ≤ a) → ⊥
    disagree a b s t x first second (inl h) = omega arith
    disagree a b s t x first second (inr h) = omega arith

-- and nodes above one leaf are nested
pub nested : (n m leaf : ℕ) → IsTrue (is_node n) → IsTrue (is_node m) → IsTrue (is_above n leaf) → IsTrue (is_above m leaf) → (is_under n m ≡ true) ⊎ (is_under m n ≡ true)
nested n m leaf node other above above' =
    elim (cases_Bool (is_under n m)) [
      | inl under ↦ inl under
      | inr not_under ↦
          elim (cases_Bool (is_under m n)) [
            | inl over ↦ inr over
            | inr not_above ↦ absurd (no_leaf_of_both n m leaf node other not_under not_above above above')
          ]
    ]

-- a split node's halves share its leaves: the low half has those below the high half's first one
abbrev halves : ℕ → Bool
halves n = (first_leaf (2 * n) == first_leaf n) && ((first_leaf (2 * n + 1) == first_leaf n + span (2 * n)) && ((span (2 * n) + span (2 * n) == span n) && ((span (2 * n + 1) == span (2 * n)) && nat_lt 0 (span (2 * n)))))

each_halves : all_below (λ n. halves (suc n)) 31 ≡ true
each_halves = refl

pub record Halves (n : ℕ) : Type 0 where
  pub low : first_leaf (2 * n) ≡ first_leaf n
  pub high : first_leaf (2 * n + 1) ≡ first_leaf n + span (2 * n)
  pub whole : span (2 * n) + span (2 * n) ≡ span n
  pub same : span (2 * n + 1) ≡ span (2 * n)
  pub some : 0 < span (2 * n)

pub halves_of : (n : ℕ) → IsTrue (is_node n) → is_leaf n ≡ false → Halves n
halves_of n node inner =
    let a = and_parts (first_leaf (2 * n) == first_leaf n) ((first_leaf (2 * n + 1) == first_leaf n + span (2 * n)) && ((span (2 * n) + span (2 * n) == span n) && ((span (2 * n + 1) == span (2 * n)) && nat_lt 0 (span (2 * n))))) test in
    let b = and_parts (first_leaf (2 * n + 1) == first_leaf n + span (2 * n)) ((span (2 * n) + span (2 * n) == span n) && ((span (2 * n + 1) == span (2 * n)) && nat_lt 0 (span (2 * n)))) a.1 in
    let c = and_parts (span (2 * n) + span (2 * n) == span n) ((span (2 * n + 1) == span (2 * n)) && nat_lt 0 (span (2 * n))) b.1 in
    let d = and_parts (span (2 * n + 1) == span (2 * n)) (nat_lt 0 (span (2 * n))) c.1 in
    record {
      low = eqb-true (first_leaf (2 * n)) (first_leaf n) a.0;
      high = eqb-true (first_leaf (2 * n + 1)) (first_leaf n + span (2 * n)) b.0;
      whole = eqb-true (span (2 * n) + span (2 * n)) (span n) c.0;
      same = eqb-true (span (2 * n + 1)) (span (2 * n)) d.0;
      some = ltb-true 0 (span (2 * n)) d.1;
    }
  where
    low' : 1 ≤ n
    low' = (node_bounds n node).0

    before : n - 1 < 31
    before = let high' = leb-false 32 n inner in omega arith

    test : halves n ≡ true
    test = subst (λ (k : ℕ). halves k ≡ true) (next_place n low') (all_below_at (λ k. halves (suc k)) 31 (n - 1) each_halves before)

-- the nodes above a leaf, and its own: each covers the leaf, and only its own is a leaf
abbrev covers : ℕ → ℕ → Bool
covers leaf levels =
    is_node (node_above leaf levels) && (is_above (node_above leaf levels) leaf && ((levels == 0) || nat_lt (node_above leaf levels) 32))

each_covers : all_below (λ leaf. all_below (covers leaf) 6) 32 ≡ true
each_covers = refl

pub record Covers (leaf levels : ℕ) : Type 0 where
  pub node : IsTrue (is_node (node_above leaf levels))
  pub above : IsTrue (is_above (node_above leaf levels) leaf)
  pub inner : 0 < levels → node_above leaf levels < 32

pub node_above_covers : (leaf levels : ℕ) → leaf < 32 → levels ≤ 5 → Covers leaf levels
node_above_covers leaf levels few low =
    let n = node_above leaf levels in
    let row = all_below_at (λ k. all_below (covers k) 6) 32 leaf each_covers few in
    let a = and_parts (is_node n) (is_above n leaf && ((levels == 0) || nat_lt n 32)) (all_below_at (covers leaf) 6 levels row (omega arith)) in
    let b = and_parts (is_above n leaf) ((levels == 0) || nat_lt n 32) a.1 in
    record {
      node = a.0;
      above = b.0;
      inner = λ some.
          elim (or_cases (levels == 0) (nat_lt n 32) b.1) [
            | inl own ↦ absurd (let e = eqb-true levels 0 own in omega arith)
            | inr high ↦ ltb-true n 32 high
          ];
    }
