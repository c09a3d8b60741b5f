-- What layers above use of nodes: which keys of a segment they cover.
use Rattle.std.proofs.Common.{◌≡◌, ◌⊎◌, ⊎_elim, ℕ, ◌+◌, ◌-◌, ◌*◌, ◌/◌, ◌<◌, ◌≤◌, true, false, arith, nat_le, nat_lt, IsTrue}
use Rattle.std.proofs.Math.Nat.{div-mul-le_self, lt-div-mul-add}
use Rattle.std.proofs.lemmas.Nat.{div_below}
use Rattle.std.proofs.lemmas.Bool.{and_from, le-leb, lt-ltb, cases_lt}
use Rattle.sq_moves.specs.declared.node.TheConstants.{LEAVES}
use Rattle.sq_moves.specs.Node.{is_node, span, first_leaf, is_above, is_under}
use Rattle.sq_moves.proofs.Nested.{apart, above_bounds}
use Rattle.sq_moves.specs.declared.recon.Range.{Range}
use Rattle.sq_moves.specs.ReconValue.{has_key, segment_width, leaf_of, leaf_start, extent}
pub use Rattle.sq_moves.specs.Laws.{Covers}
use Rattle.sq_moves.proofs.Joins.{has_key-bounds}

module _ (width : ℕ) (segment : Range) where
  -- leaves rise, within the segment
  pub leaf_start_rises : (i j : ℕ) → i ≤ j → leaf_start width segment i ≤ leaf_start width segment j
  leaf_start_rises i j le = let more : i * width ≤ j * width = grind arith in omega arith

  pub leaf_start_low : (i : ℕ) → segment.lo ≤ segment.hi → segment.lo ≤ leaf_start width segment i
  leaf_start_low i some = omega arith

  pub leaf_start_high : (i : ℕ) → leaf_start width segment i ≤ segment.hi
  leaf_start_high i = omega arith

  -- so do the bounds of a node
  pub extent_rises : (n : ℕ) → (extent width segment n).lo ≤ (extent width segment n).hi
  extent_rises n = leaf_start_rises (first_leaf n) (first_leaf n + span n) (omega arith)

  pub extent_low : (n : ℕ) → segment.lo ≤ segment.hi → segment.lo ≤ (extent width segment n).lo
  extent_low n some = leaf_start_low (first_leaf n) some

  pub extent_high : (n : ℕ) → (extent width segment n).hi ≤ segment.hi
  extent_high n = leaf_start_high (first_leaf n + span n)

  -- node 1 is the whole segment
  pub extent_whole : segment.lo ≤ segment.hi → segment.hi ≤ segment.lo + segment_width width → ((extent width segment 1).lo ≡ segment.lo) × ((extent width segment 1).hi ≡ segment.hi)
  extent_whole some short = (omega arith, omega arith)

  -- a node whose leaves come before another's ends before the other begins
  pub extent_before : (n m : ℕ) → first_leaf n + span n ≤ first_leaf m → (extent width segment n).hi ≤ (extent width segment m).lo
  extent_before n m before = leaf_start_rises (first_leaf n + span n) (first_leaf m) before

  -- two nodes with leaves apart cover no key together
  pub extents_apart : (n m key : ℕ) → (first_leaf n + span n ≤ first_leaf m) ⊎ (first_leaf m + span m ≤ first_leaf n) → Covers (extent width segment n) key → Covers (extent width segment m) key → ⊥
  extents_apart n m key apart one other = ⊎_elim
      (λ (before : first_leaf n + span n ≤ first_leaf m). let ends = extent_before n m before in omega (arith, one.high, other.low))
      (λ (behind : first_leaf m + span m ≤ first_leaf n). let ends = extent_before m n behind in omega (arith, one.low, other.high))
      apart

  -- as two that aren't nested have
  pub extents_disjoint : (n m key : ℕ) → IsTrue (is_node n) → IsTrue (is_node m) → is_under n m ≡ false → is_under m n ≡ false → Covers (extent width segment n) key → Covers (extent width segment m) key → ⊥
  extents_disjoint n m key node other not_under not_above = extents_apart n m key (apart n m node other not_under not_above)

  module _ (some : 1 ≤ width) (key : ℕ) (held : has_key segment key ≡ true) where
    -- a leaf begins at a key or before it where the key's leaf doesn't come before it
    begins_before : (j : ℕ) → j ≤ leaf_of width segment key → leaf_start width segment j ≤ key
    begins_before j le =
        let bounds = has_key-bounds segment key held in
        let fits = div-mul-le_self (key - segment.lo) width in
        let more : j * width ≤ (key - segment.lo) / width * width = grind arith in
        omega arith

    begins_behind : (j : ℕ) → leaf_of width segment key < j → key < leaf_start width segment j
    begins_behind j less =
        let bounds = has_key-bounds segment key held in
        let over : key - segment.lo < (key - segment.lo) / width * width + width = lt-div-mul-add some in
        let more : ((key - segment.lo) / width + 1) * width ≤ j * width = grind arith in
        omega arith

    -- a node above the key's leaf covers it
    pub covers_from_above : (n : ℕ) → is_above n (leaf_of width segment key) ≡ true → Covers (extent width segment n) key
    covers_from_above n above =
        let bounds = above_bounds n (leaf_of width segment key) above in
        record { low = begins_before (first_leaf n) bounds.0; high = begins_behind (first_leaf n + span n) bounds.1 }

    -- and no other does
    pub above_from_covers : (n : ℕ) → Covers (extent width segment n) key → is_above n (leaf_of width segment key) ≡ true
    above_from_covers n covers =
        let leaf = leaf_of width segment key in
        and_from (nat_le (first_leaf n) leaf) (nat_lt leaf (first_leaf n + span n))
        (le-leb (first_leaf n) leaf (⊎_elim (λ (less : leaf < first_leaf n). let behind = begins_behind (first_leaf n) less in absurd (omega (arith, covers.low))) (λ (le : first_leaf n ≤ leaf). le) (cases_lt leaf (first_leaf n))))
        (lt-ltb leaf (first_leaf n + span n) (⊎_elim (λ (less : leaf < first_leaf n + span n). less) (λ (le : first_leaf n + span n ≤ leaf). let before = begins_before (first_leaf n + span n) le in absurd (omega (arith, covers.high))) (cases_lt leaf (first_leaf n + span n))))

    -- its leaf is one of the tree's
    pub leaf_below : segment.hi ≤ segment.lo + segment_width width → leaf_of width segment key < LEAVES
    leaf_below short =
        let bounds = has_key-bounds segment key held in
        div_below (key - segment.lo) width LEAVES some (omega arith)
