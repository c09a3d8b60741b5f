-- In a grown tree each leaf has one live node above it that isn't split.
use Rattle.std.proofs.Common.{◌≡◌, ◌≢◌, inl, inr, ℕ, zero, suc, ◌+◌, ◌*◌, ◌/◌, ◌^◌, ◌<◌, ◌≤◌, true, false, ◌==◌, if◌then◌else◌, IsTrue, refl, sym, ap, ◌∙◌, subst, arith, true≢false, pow-suc, mul_assoc, mul_comm, mul-le-mul_right, le_trans}
use Rattle.std.proofs.lemmas.Bool.{or_cases, or_right, cond-true, cond-false, cond_both, eqb-true, le-leb, cases_Bool, cases_eq, cases_lt, leb-false, false_from_ne_true}
use Rattle.sq_moves.specs.declared.status.Status.{Status}
use Rattle.sq_moves.specs.Node.{is_node, is_leaf, parent, span, first_leaf, is_above, is_under}
use Rattle.sq_moves.specs.Status.{is_free, is_split, is_live, covering, covering_within}
use Rattle.sq_moves.specs.Tree.{IsGrown, IsCovering}
use Rattle.sq_moves.proofs.Statuses.{split_touched}
use Rattle.sq_moves.proofs.Nested.{node_bounds, node_within, under_parent, apart, above_bounds, above_within, nested, Halves, halves_of, low_node, high_node}

-- what is above a live node and isn't that node is split
pub split_above : (status : ℕ → Status) → IsGrown status → (n m : ℕ) → IsTrue (is_node n) → IsTrue (is_node m) → is_live status m ≡ true → is_under n m ≡ true → n ≢ m → is_split (status n) ≡ true
split_above status grown n m node other live under differ = within m m other live under differ (omega arith)
  where
    within : (steps k : ℕ) → IsTrue (is_node k) → is_live status k ≡ true → is_under n k ≡ true → n ≢ k → k ≤ steps → is_split (status n) ≡ true
    within zero k there alive below apart few = absurd (let low = (node_bounds k there).0 in omega arith)
    within (suc steps) k there alive below apart few =
        let up = under_parent n k node there below apart in
        let bounds = node_bounds k there in
        let split : is_split (status (parent k)) ≡ true = elim (or_cases (k == 1) (is_split (status (parent k))) alive) [
          | inl one ↦ absurd (let e = eqb-true k 1 one in let f = up.0 in omega arith)
          | inr halved ↦ halved
        ] in
        elim (cases_eq n (parent k)) [
          | inl same ↦ subst (λ (j : ℕ). is_split (status j) ≡ true) (sym same) split
          | inr higher ↦
              within steps (parent k)
              (node_within (parent k) (let f = up.0 in omega arith) (omega arith))
              (grown.live (parent k) (split_touched (status (parent k)) split))
              up.1 higher (let f = up.0 in omega arith)
        ]

-- a place on the way down from node 1 to a leaf, which is at most `depth` halvings below it
record Step (status : ℕ → Status) (leaf depth n : ℕ) : Type 0 where
  node : IsTrue (is_node n)
  above : IsTrue (is_above n leaf)
  live : is_live status n ≡ true
  deep : 32 ≤ n * 2 ^ depth

-- the end of that way
record Found (status : ℕ → Status) (leaf n : ℕ) : Type 0 where
  node : IsTrue (is_node n)
  above : IsTrue (is_above n leaf)
  live : is_live status n ≡ true
  whole : is_split (status n) ≡ false

-- the halves have one halving less below them
pub deeper : (n depth : ℕ) → 32 ≤ n * 2 ^ suc depth → 32 ≤ (2 * n) * 2 ^ depth
deeper n depth deep =
    let e : n * 2 ^ suc depth ≡ (2 * n) * 2 ^ depth = ap (λ k. n * k) (pow-suc 2 depth ∙ mul_comm (2 ^ depth) 2) ∙ sym (mul_assoc n 2 (2 ^ depth)) ∙ ap (λ k. k * 2 ^ depth) (mul_comm n 2) in
    omega arith

-- of a node above a leaf one half is above it: the high one, if the low one isn't
pub high_half : (n leaf : ℕ) → Halves n → IsTrue (is_above n leaf) → is_above (2 * n) leaf ≡ false → IsTrue (is_above (2 * n + 1) leaf)
high_half n leaf half above past =
    let at = above_bounds n leaf above in
    let first = first_leaf n in
    let low = first_leaf (2 * n) in
    let high = first_leaf (2 * n + 1) in
    let part = span (2 * n) in
    elim (cases_lt leaf (low + part)) [
      | inl before ↦ absurd (true≢false (sym (above_within (2 * n) leaf (starts first low leaf half.low at.0) before) ∙ past))
      | inr after ↦
          above_within (2 * n + 1) leaf
          (goes_on first low high part leaf half.low half.high after)
          (ends first high part (span n) (span (2 * n + 1)) leaf half.high half.whole half.same at.1)
    ]
  where
    starts : (first low leaf : ℕ) → low ≡ first → first ≤ leaf → low ≤ leaf
    starts first low leaf e h = omega arith

    goes_on : (first low high part leaf : ℕ) → low ≡ first → high ≡ first + part → low + part ≤ leaf → high ≤ leaf
    goes_on first low high part leaf e f h = omega arith

    ends : (first high part whole other leaf : ℕ) → high ≡ first + part → part + part ≡ whole → other ≡ part → leaf < first + whole → leaf < high + other
    ends first high part whole other leaf e f g h = omega arith

-- what is above a leaf by a half is above it
pub low_above : (n leaf : ℕ) → Halves n → IsTrue (is_above (2 * n) leaf) → IsTrue (is_above n leaf)
low_above n leaf half above =
    let at = above_bounds (2 * n) leaf above in
    above_within n leaf
    (starts (first_leaf n) (first_leaf (2 * n)) leaf half.low at.0)
    (ends (first_leaf n) (first_leaf (2 * n)) (span (2 * n)) (span n) leaf half.low half.whole at.1)
  where
    starts : (first low leaf : ℕ) → low ≡ first → low ≤ leaf → first ≤ leaf
    starts first low leaf e h = omega arith

    ends : (first low part whole leaf : ℕ) → low ≡ first → part + part ≡ whole → leaf < low + part → leaf < first + whole
    ends first low part whole leaf e f h = omega arith

pub high_above : (n leaf : ℕ) → Halves n → IsTrue (is_above (2 * n + 1) leaf) → IsTrue (is_above n leaf)
high_above n leaf half above =
    let at = above_bounds (2 * n + 1) leaf above in
    above_within n leaf
    (starts (first_leaf n) (first_leaf (2 * n + 1)) (span (2 * n)) leaf half.high at.0)
    (ends (first_leaf n) (first_leaf (2 * n + 1)) (span (2 * n)) (span n) (span (2 * n + 1)) leaf half.high half.whole half.same at.1)
  where
    starts : (first high part leaf : ℕ) → high ≡ first + part → high ≤ leaf → first ≤ leaf
    starts first high part leaf e h = omega arith

    ends : (first high part whole other leaf : ℕ) → high ≡ first + part → part + part ≡ whole → other ≡ part → leaf < high + other → leaf < first + whole
    ends first high part whole other leaf e f g h = omega arith

-- no leaf is one of both halves
pub high_not_low : (n leaf : ℕ) → Halves n → IsTrue (is_above (2 * n + 1) leaf) → is_above (2 * n) leaf ≡ false
high_not_low n leaf half above =
    let high = above_bounds (2 * n + 1) leaf above in
    false_from_ne_true (is_above (2 * n) leaf) (λ too. disagree (first_leaf n) (first_leaf (2 * n)) (first_leaf (2 * n + 1)) (span (2 * n)) leaf half.low half.high high.0 (above_bounds (2 * n) leaf too).1)
  where
    disagree : (first low high part leaf : ℕ) → low ≡ first → high ≡ first + part → high ≤ leaf → leaf < low + part → ⊥
    disagree first low high part leaf e f g h = omega arith

-- the halves of a split node are live
pub low_live : (status : ℕ → Status) (n : ℕ) → is_split (status n) ≡ true → is_live status (2 * n) ≡ true
low_live status n split =
    let half : n ≡ 2 * n / 2 = omega arith in
    or_right (2 * n == 1) (is_split (status (2 * n / 2))) (subst (λ (k : ℕ). is_split (status k) ≡ true) half split)

pub high_live : (status : ℕ → Status) (n : ℕ) → is_split (status n) ≡ true → is_live status (2 * n + 1) ≡ true
high_live status n split =
    let half : n ≡ (2 * n + 1) / 2 = omega arith in
    or_right (2 * n + 1 == 1) (is_split (status ((2 * n + 1) / 2))) (subst (λ (k : ℕ). is_split (status k) ≡ true) half split)

child : (status : ℕ → Status) (leaf depth n : ℕ) → Step status leaf (suc depth) n → is_split (status n) ≡ true → is_leaf n ≡ false → Step status leaf depth (if is_above (2 * n) leaf then 2 * n else 2 * n + 1)
child status leaf depth n at split not_leaf =
    let deep = deeper n depth at.deep in
    cond_both (is_above (2 * n) leaf) (2 * n) (2 * n + 1) (Step status leaf depth)
    (λ above. record {
      node = low_node n at.node not_leaf;
      above = above;
      live = low_live status n split;
      deep = deep;
    })
    (λ past. record {
      node = high_node n at.node not_leaf;
      above = high_half n leaf (halves_of n at.node not_leaf) at.above past;
      live = high_live status n split;
      deep = le_trans deep (mul-le-mul_right (2 ^ depth) (omega arith));
    })

-- a split node isn't a leaf
pub inner : (status : ℕ → Status) → IsGrown status → (n : ℕ) → is_split (status n) ≡ true → is_leaf n ≡ false
inner status grown n split = false_from_ne_true (is_leaf n) (λ leaf. true≢false (sym split ∙ grown.leaves n leaf))

walk : (status : ℕ → Status) → IsGrown status → (leaf depth n : ℕ) → Step status leaf depth n → Found status leaf (covering_within depth status leaf n)
walk status grown leaf zero n at = record {
  node = at.node;
  above = at.above;
  live = at.live;
  whole = grown.leaves n (le-leb 32 n (let deep = at.deep in omega arith));
}
walk status grown leaf (suc depth) n at =
    elim (cases_Bool (is_split (status n))) [
      | inl split ↦ subst (Found status leaf) (sym (cond-true (is_split (status n)) below n split)) (walk status grown leaf depth half (child status leaf depth n at split (inner status grown n split)))
      | inr whole ↦ subst (Found status leaf) (sym (cond-false (is_split (status n)) below n whole)) (record { node = at.node; above = at.above; live = at.live; whole = whole })
    ]
  where
    half : ℕ
    half = if is_above (2 * n) leaf then 2 * n else 2 * n + 1

    below : ℕ
    below = covering_within depth status leaf (if is_above (2 * n) leaf then 2 * n else 2 * n + 1)

found : (status : ℕ → Status) → IsGrown status → (leaf : ℕ) → leaf < 32 → Found status leaf (covering status leaf)
found status grown leaf few = walk status grown leaf 5 1 (record { node = refl; above = above_within 1 leaf (omega arith) few; live = refl; deep = omega arith })

-- so the node that covers a leaf is live, isn't split, and is the only such node above the leaf
pub covering_is : (status : ℕ → Status) → IsGrown status → (leaf : ℕ) → leaf < 32 → IsCovering status leaf (covering status leaf)
covering_is status grown leaf few =
    let at = found status grown leaf few in
    record {
      node = at.node;
      above = at.above;
      live = at.live;
      whole = at.whole;
      only = λ m node above live whole. alone m at node above live whole;
    }
  where
    alone : (m : ℕ) → Found status leaf (covering status leaf) → is_node m ≡ true → is_above m leaf ≡ true → is_live status m ≡ true → is_split (status m) ≡ false → m ≡ covering status leaf
    alone m at node above live whole =
        let n : ℕ = covering status leaf in
        elim (cases_eq m n) [
          | inl same ↦ same
          | inr differ ↦
              elim (nested m n leaf node at.node above at.above) [
                | inl under ↦ absurd (true≢false (sym (split_above status grown m n node at.node at.live under differ) ∙ whole))
                | inr over ↦ absurd (true≢false (sym (split_above status grown n m at.node node live over (λ e. differ (sym e))) ∙ at.whole))
              ]
        ]

-- a node above the leaf that is neither free nor split covers it
pub covering_touched : (status : ℕ → Status) → IsGrown status → (leaf n : ℕ) → leaf < 32 → IsTrue (is_node n) → IsTrue (is_above n leaf) → is_free (status n) ≡ false → is_split (status n) ≡ false → covering status leaf ≡ n
covering_touched status grown leaf n few node above touched whole =
    sym ((covering_is status grown leaf few).only n node above (grown.live n touched) whole)

-- looking for the node that covers a leaf, from this node on, finds that one
pub record LooksFrom (status : ℕ → Status) (leaf n found : ℕ) : Type 0 where
  pub node : IsTrue (is_node n)
  pub depth : ℕ
  pub deep : 32 ≤ n * 2 ^ depth
  pub finds : covering_within depth status leaf n ≡ found

pub looks_from_1 : (status : ℕ → Status) (leaf : ℕ) → LooksFrom status leaf 1 (covering status leaf)
looks_from_1 status leaf = record { node = refl; depth = 5; deep = omega arith; finds = refl }

-- also from the half of a split node that is above the leaf
pub looks_from_half : (status : ℕ → Status) → IsGrown status → (leaf n found : ℕ) → LooksFrom status leaf n found → is_split (status n) ≡ true → (half : ℕ) → half ≡ (if is_above (2 * n) leaf then 2 * n else 2 * n + 1) → LooksFrom status leaf half found
looks_from_half status grown leaf n found from split half is =
    subst (λ (k : ℕ). LooksFrom status leaf k found) (sym is) (within from.depth from.deep from.finds)
  where
    not_leaf : is_leaf n ≡ false
    not_leaf = inner status grown n split

    within : (depth : ℕ) → 32 ≤ n * 2 ^ depth → covering_within depth status leaf n ≡ found → LooksFrom status leaf (if is_above (2 * n) leaf then 2 * n else 2 * n + 1) found
    within zero deep finds = absurd (let few = leb-false 32 n not_leaf in omega arith)
    within (suc depth) deep finds =
        let low = deeper n depth deep in
        record {
          node = cond_both (is_above (2 * n) leaf) (2 * n) (2 * n + 1) (λ k. IsTrue (is_node k)) (λ _. low_node n from.node not_leaf) (λ _. high_node n from.node not_leaf);
          depth = depth;
          deep = cond_both (is_above (2 * n) leaf) (2 * n) (2 * n + 1) (λ k. 32 ≤ k * 2 ^ depth) (λ _. low) (λ _. le_trans low (mul-le-mul_right (2 ^ depth) (omega arith)));
          finds = sym (cond-true (is_split (status n)) (covering_within depth status leaf (if is_above (2 * n) leaf then 2 * n else 2 * n + 1)) n split) ∙ finds;
        }

-- what is found from a node that isn't split is this node
pub looks_no_further : (status : ℕ → Status) (leaf n found : ℕ) → LooksFrom status leaf n found → is_split (status n) ≡ false → n ≡ found
looks_no_further status leaf n found from whole = within from.depth from.finds
  where
    within : (depth : ℕ) → covering_within depth status leaf n ≡ found → n ≡ found
    within zero finds = finds
    within (suc depth) finds = sym (cond-false (is_split (status n)) (covering_within depth status leaf (if is_above (2 * n) leaf then 2 * n else 2 * n + 1)) n whole) ∙ finds
