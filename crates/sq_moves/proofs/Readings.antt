-- A tree reads complete where each leaf's node is complete.
use Rattle.std.proofs.Common.{◌≡◌, ◌↔◌, inl, inr, ℕ, zero, suc, ◌+◌, ◌*◌, ◌^◌, ◌<◌, ◌≤◌, Bool, true, false, if◌then◌else◌, IsTrue, refl, sym, ap, ap₂, ◌∙◌, subst, arith, true≢false, mul-le-mul_right, le_trans}
use Rattle.std.proofs.lemmas.Bool.{cond-true, cond-false, cases_Bool, le-leb, leb-false}
use Rattle.std.proofs.lemmas.Bool.Decides.{nat_tests}
use Rattle.sq_moves.specs.declared.status.Status.{Status}
use Rattle.sq_moves.specs.declared.status.Status.TheVariants.{Free, Split, Claimed, Partial, Complete}
use Rattle.sq_moves.specs.declared.status.Reading.{Reading}
use Rattle.sq_moves.specs.declared.status.Reading.TheVariants as reads
use Rattle.sq_moves.specs.Node.{is_node, is_leaf, span, first_leaf, is_above}
use Rattle.sq_moves.specs.Status.{is_split, is_live, is_complete, both, reading, reading_of, reading_within, covering, covering_within}
use Rattle.sq_moves.specs.Tree.{IsGrown, IsReading}
use Rattle.sq_moves.proofs.Statuses.{split_is}
use Rattle.sq_moves.proofs.Live.{live_within-parent, live_within-live}
use Rattle.sq_moves.proofs.Nested.{node_bounds, above_bounds, above_within, Halves, halves_of, low_node, high_node}
use Rattle.sq_moves.proofs.Covering.{low_live, high_live, deeper, low_above, high_above, high_not_low, high_half, inner}

-- a node that isn't split reads complete just where it is complete
reads_complete : (below : ℕ → Reading) (n : ℕ) (st : Status) → is_split st ≡ false → (reading_of below n st ≡ reads.Complete) ↔ (is_complete st ≡ true)
reads_complete below n Free e = (λ h. absurd cc, λ h. absurd cc)
reads_complete below n Split e = absurd cc
reads_complete below n (Claimed p) e = (λ h. absurd cc, λ h. absurd cc)
reads_complete below n (Partial p) e = (λ h. absurd cc, λ h. absurd cc)
reads_complete below n (Complete p) e = (λ _. refl, λ _. refl)

both_complete : (a b : Reading) → both a b ≡ reads.Complete → (a ≡ reads.Complete) × (b ≡ reads.Complete)
both_complete reads.Complete reads.Complete e = (refl, refl)
both_complete reads.Complete reads.NotStarted e = absurd cc
both_complete reads.Complete reads.Partial e = absurd cc
both_complete reads.NotStarted reads.Complete e = absurd cc
both_complete reads.NotStarted reads.NotStarted e = absurd cc
both_complete reads.NotStarted reads.Partial e = absurd cc
both_complete reads.Partial reads.Complete e = absurd cc
both_complete reads.Partial reads.NotStarted e = absurd cc
both_complete reads.Partial reads.Partial e = absurd cc

-- each leaf of a node has a complete node above it, at most `depth` halvings below
abbrev AllComplete : (ℕ → Status) → ℕ → ℕ → Type 0
AllComplete status depth n = (leaf : ℕ) → IsTrue (is_above n leaf) → is_complete (status (covering_within depth status leaf n)) ≡ true

-- there is a leaf below each node
some_leaf : (n : ℕ) → IsTrue (is_above n (first_leaf n))
some_leaf n = above_within n (first_leaf n) (omega arith) (more (first_leaf n) (span n) (grind (arith, nat_tests)))
  where
    more : (a s : ℕ) → 0 < s → a < a + s
    more a s h = omega arith

-- a node that isn't split
whole_node : (status : ℕ → Status) (depth n : ℕ) → is_split (status n) ≡ false → (reading_within depth status n ≡ reads.Complete) ↔ AllComplete status depth n
whole_node status zero n whole =
    let so = reads_complete (λ _. reads.Partial) n (status n) whole in
    (λ reads leaf above. so.0 reads, λ all. so.1 (all (first_leaf n) (some_leaf n)))
whole_node status (suc depth) n whole =
    let so = reads_complete (reading_within depth status) n (status n) whole in (
      λ reads leaf above. subst Done (sym (stops leaf)) (so.0 reads),
      λ all. so.1 (subst Done (stops (first_leaf n)) (all (first_leaf n) (some_leaf n))),
    )
  where
    Done : ℕ → Type 0
    Done k = is_complete (status k) ≡ true

    stops : (leaf : ℕ) → covering_within (suc depth) status leaf n ≡ n
    stops leaf = cond-false (is_split (status n)) (covering_within depth status leaf (if is_above (2 * n) leaf then 2 * n else 2 * n + 1)) n whole

-- a split node, where it holds of its halves
split_node : (status : ℕ → Status) (depth n : ℕ) → Halves n → is_split (status n) ≡ true → ((reading_within depth status (2 * n) ≡ reads.Complete) ↔ AllComplete status depth (2 * n)) → ((reading_within depth status (2 * n + 1) ≡ reads.Complete) ↔ AllComplete status depth (2 * n + 1)) → (reading_within (suc depth) status n ≡ reads.Complete) ↔ AllComplete status (suc depth) n
split_node status depth n half split low high = (λ reads. all (both_complete _ _ (sym by_halves ∙ reads)), λ all. by_halves ∙ together (low.1 (λ leaf above. of_low all leaf above)) (high.1 (λ leaf above. of_high all leaf above)))
  where
    Done : ℕ → Type 0
    Done k = is_complete (status k) ≡ true

    by_halves : reading_within (suc depth) status n ≡ both (reading_within depth status (2 * n)) (reading_within depth status (2 * n + 1))
    by_halves = ap (reading_of (reading_within depth status) n) (split_is (status n) split)

    together : {a b : Reading} → a ≡ reads.Complete → b ≡ reads.Complete → both a b ≡ reads.Complete
    together e f = ap₂ both e f

    goes : (leaf : ℕ) → covering_within (suc depth) status leaf n ≡ covering_within depth status leaf (if is_above (2 * n) leaf then 2 * n else 2 * n + 1)
    goes leaf = cond-true (is_split (status n)) (covering_within depth status leaf (if is_above (2 * n) leaf then 2 * n else 2 * n + 1)) n split

    goes_low : (leaf : ℕ) → is_above (2 * n) leaf ≡ true → covering_within (suc depth) status leaf n ≡ covering_within depth status leaf (2 * n)
    goes_low leaf first = goes leaf ∙ ap (covering_within depth status leaf) (cond-true (is_above (2 * n) leaf) (2 * n) (2 * n + 1) first)

    goes_high : (leaf : ℕ) → is_above (2 * n) leaf ≡ false → covering_within (suc depth) status leaf n ≡ covering_within depth status leaf (2 * n + 1)
    goes_high leaf past = goes leaf ∙ ap (covering_within depth status leaf) (cond-false (is_above (2 * n) leaf) (2 * n) (2 * n + 1) past)

    all : (reading_within depth status (2 * n) ≡ reads.Complete) × (reading_within depth status (2 * n + 1) ≡ reads.Complete) → AllComplete status (suc depth) n
    all reads leaf above =
        elim (cases_Bool (is_above (2 * n) leaf)) [
          | inl first ↦ subst Done (sym (goes_low leaf first)) (low.0 reads.0 leaf first)
          | inr past ↦ subst Done (sym (goes_high leaf past)) (high.0 reads.1 leaf (high_half n leaf half above past))
        ]

    of_low : AllComplete status (suc depth) n → AllComplete status depth (2 * n)
    of_low every leaf above = subst Done (goes_low leaf above) (every leaf (low_above n leaf half above))

    of_high : AllComplete status (suc depth) n → AllComplete status depth (2 * n + 1)
    of_high every leaf above = subst Done (goes_high leaf (high_not_low n leaf half above)) (every leaf (high_above n leaf half above))

-- at a node as many halvings above the leaves as are looked through
pub complete_within : (status : ℕ → Status) → IsGrown status → (depth n : ℕ) → IsTrue (is_node n) → 32 ≤ n * 2 ^ depth → (reading_within depth status n ≡ reads.Complete) ↔ AllComplete status depth n
complete_within status grown zero n node deep = whole_node status zero n (grown.leaves n (le-leb 32 n (omega arith)))
complete_within status grown (suc depth) n node deep =
    elim (cases_Bool (is_split (status n))) [
      | inr whole ↦ whole_node status (suc depth) n whole
      | inl split ↦
          let not_leaf = inner status grown n split in
          let less = deeper n depth deep in
          split_node status depth n (halves_of n node not_leaf) split
          (complete_within status grown depth (2 * n) (low_node n node not_leaf) less)
          (complete_within status grown depth (2 * n + 1) (high_node n node not_leaf) (le_trans less (mul-le-mul_right (2 ^ depth) (omega arith))))
    ]

-- the segment reads complete just where each leaf's node is complete
pub all_complete_is : (status : ℕ → Status) → IsGrown status → (reading status 1 ≡ reads.Complete) ↔ ((leaf : ℕ) → leaf < 32 → is_complete (status (covering status leaf)) ≡ true)
all_complete_is status grown =
    let so = complete_within status grown 5 1 refl (omega arith) in
    (λ reads leaf few. so.0 reads leaf (above_within 1 leaf (omega arith) few), λ all. so.1 (λ leaf above. all leaf (above_bounds 1 leaf above).1))

-- what a split node reads, from what its halves read, at any depth that reaches the leaves
pub reads_split : (status : ℕ → Status) (n : ℕ) (low high : Reading) → Split ≡ status n → is_leaf n ≡ false → ((depth : ℕ) → 32 ≤ (2 * n) * 2 ^ depth → low ≡ reading_within depth status (2 * n)) → ((depth : ℕ) → 32 ≤ (2 * n + 1) * 2 ^ depth → high ≡ reading_within depth status (2 * n + 1)) → (depth : ℕ) → 32 ≤ n * 2 ^ depth → both low high ≡ reading_within depth status n
reads_split status n low high split not_leaf of_low of_high zero deep = absurd (let few = leb-false 32 n not_leaf in omega arith)
reads_split status n low high split not_leaf of_low of_high (suc depth) deep =
    let less = deeper n depth deep in
    ap₂ both (of_low depth less) (of_high depth (le_trans less (mul-le-mul_right (2 ^ depth) (omega arith))))
    ∙ ap (reading_of (reading_within depth status) n) split

-- what a node reads is a matter of what its halves read, and of that only where it is split
reading_of-same : (below other : ℕ → Reading) (n : ℕ) (st : Status) → (is_split st ≡ true → below (2 * n) ≡ other (2 * n)) → (is_split st ≡ true → below (2 * n + 1) ≡ other (2 * n + 1)) → reading_of below n st ≡ reading_of other n st
reading_of-same below other n Free low high = refl
reading_of-same below other n Split low high = ap₂ both (low refl) (high refl)
reading_of-same below other n (Claimed p) low high = refl
reading_of-same below other n (Partial p) low high = refl
reading_of-same below other n (Complete p) low high = refl

not_both : {A : Type 0} (b : Bool) → b ≡ true → b ≡ false → A
not_both b holds fails = absurd (true≢false (sym holds ∙ fails))

-- looking deeper than to the leaves changes no reading
pub deep_enough : (status : ℕ → Status) → IsGrown status → (depth more n : ℕ) → IsTrue (is_node n) → 32 ≤ n * 2 ^ depth → 32 ≤ n * 2 ^ more → reading_within depth status n ≡ reading_within more status n
deep_enough status grown zero zero n node deep deep' = refl
deep_enough status grown zero (suc more) n node deep deep' =
    let whole = grown.leaves n (le-leb 32 n (omega arith)) in
    reading_of-same (λ _. reads.Partial) (reading_within more status) n (status n) (λ split. not_both (is_split (status n)) split whole) (λ split. not_both (is_split (status n)) split whole)
deep_enough status grown (suc depth) zero n node deep deep' =
    let whole = grown.leaves n (le-leb 32 n (omega arith)) in
    reading_of-same (reading_within depth status) (λ _. reads.Partial) n (status n) (λ split. not_both (is_split (status n)) split whole) (λ split. not_both (is_split (status n)) split whole)
deep_enough status grown (suc depth) (suc more) n node deep deep' =
    let less = deeper n depth deep in
    let less' = deeper n more deep' in
    reading_of-same (reading_within depth status) (reading_within more status) n (status n)
    (λ split. deep_enough status grown depth more (2 * n) (low_node n node (inner status grown n split)) less less')
    (λ split. deep_enough status grown depth more (2 * n + 1) (high_node n node (inner status grown n split)) (le_trans less (mul-le-mul_right (2 ^ depth) (omega arith))) (le_trans less' (mul-le-mul_right (2 ^ more) (omega arith))))

-- a live node reads as if it were looked for
reading-live : (status : ℕ → Status) (n : ℕ) → is_live status n ≡ true → reading status n ≡ reading_within 5 status n
reading-live status n live = ap (reading_within 5 status) (live_within-live status n live)

-- readings follow their rule
pub readings_are : (status : ℕ → Status) → IsGrown status → IsReading status (reading status)
readings_are status grown = record {
  live = λ n node live. reading-live status n live
      ∙ reading_of-same (reading_within 4 status) (reading status) n (status n)
      (λ split. half (2 * n) (low_node n node (inner status grown n split)) (low_live status n split) (omega (arith, node_bounds n node)))
      (λ split. half (2 * n + 1) (high_node n node (inner status grown n split)) (high_live status n split) (omega (arith, node_bounds n node)));
  rest = λ n node dead. ap (reading_within 5 status) (live_within-parent status n node dead);
}
  where
    half : (m : ℕ) → IsTrue (is_node m) → is_live status m ≡ true → 2 ≤ m → reading_within 4 status m ≡ reading status m
    half m node live low = deep_enough status grown 4 5 m node (omega arith) (omega arith) ∙ sym (reading-live status m live)

-- what a node that isn't split reads, at any depth
pub reads_whole : (status : ℕ → Status) (n : ℕ) (st : Status) → st ≡ status n → is_split st ≡ false → (depth : ℕ) → reading_of (λ _. reads.Partial) n st ≡ reading_within depth status n
reads_whole status n st is whole zero = ap (reading_of (λ _. reads.Partial) n) is
reads_whole status n st is whole (suc depth) =
    reading_of-same (λ _. reads.Partial) (reading_within depth status) n st (λ split. not_both (is_split st) split whole) (λ split. not_both (is_split st) split whole)
    ∙ ap (reading_of (reading_within depth status) n) is
