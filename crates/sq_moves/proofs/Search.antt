-- A binary search for the segment that holds a key.
use Rattle.std.proofs.Common.{◌≡◌, ◌⊎◌, ⊎_elim, ℕ, ◌-◌, ◌/◌, ◌<◌, ◌≤◌, Bool, true, false, List, length, get_or, Some, None, option_map, refl, sym, ap, ◌∙◌, subst, arith, nat_le, nat_lt}
use Rattle.std.specs.Prelude.{slice_get, option_and_then}
use Rattle.std.specs.List.Sorted.{IsPartitionedBy, IsPartitionPoint}
use Rattle.std.proofs.lemmas.Bool.{leb-true, leb-false, le-leb, lt-leb, and_left, and_right, le-ltb, cases_lt, cases_order}
use Rattle.std.proofs.lemmas.Option.{slice_get-get_or, slice_get_read}
use Rattle.sq_schema.specs.declared.root.TheConstants.{ROOT_END}
use Rattle.sq_moves.specs.declared.recon.Range.{Range}
use Rattle.sq_moves.specs.ReconValue.{ReconValue, IsRecon, has_key, segment_of, leaf_of, leaf_at, extent, extent_at}
use Rattle.sq_moves.proofs.Rows.{Row, Stands, row_at, row_apart}
use Rattle.sq_moves.proofs.Joins.{has_key-within}
use Rattle.sq_moves.proofs.Cuts.{IsSegment}
use Rattle.sq_moves.proofs.Found.{position_past, segment_of-some}
use Rattle.sq_moves.proofs.Segments.{segments_row}

-- whether a segment ends at a key or before it
abbrev pub ends_by : ℕ → Range → Bool
ends_by key segment = nat_le segment.hi key

-- this many segments end by a key, and they come first
abbrev pub IsPoint : ℕ → ℕ → List Range → Type 0
IsPoint key i segments = IsPartitionPoint (λ segment. ends_by key segment ≡ true) (λ segment. ends_by key segment ≡ false) segments i

held_not_before : (range : Range) (key : ℕ) → key < range.lo → has_key range key ≡ false
held_not_before range key less = and_left (nat_le range.lo key) (nat_lt key range.hi) (lt-leb range.lo key less)

held_not_behind : (range : Range) (key : ℕ) → range.hi ≤ key → has_key range key ≡ false
held_not_behind range key le = and_right (nat_le range.lo key) (nat_lt key range.hi) (le-ltb key range.hi le)

module _ (P : Range → Type 0) (ranges : List Range) (row : Row P 0 ROOT_END ranges) where
  at_stands : (i : ℕ) (d : Range) → i < length ranges → Stands P 0 ROOT_END (get_or ranges i d)
  at_stands i d within = row_at P 0 ROOT_END ranges i (get_or ranges i d) row (slice_get-get_or ranges i d within)

  at_apart : (i j : ℕ) (d : Range) → i < j → j < length ranges → (get_or ranges i d).hi ≤ (get_or ranges j d).lo
  at_apart i j d less within =
      row_apart P 0 ROOT_END ranges i j (get_or ranges i d) (get_or ranges j d) row (slice_get-get_or ranges i d (omega arith)) (slice_get-get_or ranges j d within) less

  -- those that end by a key come first
  pub ends_first : (key : ℕ) → IsPartitionedBy (ends_by key) ranges
  ends_first key i j d le within ends =
      ⊎_elim
      (λ (less : i < j).
      let apart = at_apart i j d less within in
      let stands = at_stands j d within in
      let bound = leb-true (get_or ranges j d).hi key ends in
      le-leb (get_or ranges i d).hi key (omega (arith, stands.some)))
      (λ (ge : j ≤ i). let same : i ≡ j = omega arith in subst (λ (k : ℕ). ends_by key (get_or ranges k d) ≡ true) (sym same) ends)
      (cases_lt i j)

module _ (recon : ReconValue) (is : IsRecon recon) (key : ℕ) where
  abbrev P : Range → Type 0
  P = IsSegment recon.width

  module _ (i : ℕ) (point : IsPoint key i recon.segments) where
    none_before : (k : ℕ) (d : Range) → k < i → has_key (get_or recon.segments k d) key ≡ false
    none_before k d less = held_not_behind (get_or recon.segments k d) key (leb-true (get_or recon.segments k d).hi key (point.0 k d (omega arith) less))

    no_leaf : segment_of recon.segments key ≡ None → None ≡ leaf_at recon key
    no_leaf none = sym (ap (option_and_then (λ at. option_map (λ segment. (at, leaf_of recon.width segment key)) (slice_get recon.segments at))) none)

    -- none is left behind the search
    pub found_past : length recon.segments ≤ i → None ≡ leaf_at recon key
    found_past all = no_leaf (position_past (λ r. has_key r key) recon.segments none (λ k within. none_before k none (omega arith)))
      where
        none : Range
        none = record { lo = 0; hi = 0; src = 0; dst = 0 }

    module _ (segment : Range) (within : i < length recon.segments) (at : segment ≡ get_or recon.segments i segment) where
      -- the first that is left lies behind the key
      pub found_behind : key < segment.lo → None ≡ leaf_at recon key
      found_behind less = no_leaf (position_past (λ r. has_key r key) recon.segments segment each)
        where
          each : (k : ℕ) → k < length recon.segments → has_key (get_or recon.segments k segment) key ≡ false
          each k inside = ⊎_elim
              (λ (same : k ≡ i). held_not_before (get_or recon.segments k segment) key (subst (λ (r : Range). key < r.lo) (at ∙ ap (λ (j : ℕ). get_or recon.segments j segment) (sym same)) less))
              (λ (other : (k < i) ⊎ (i < k)). ⊎_elim
              (λ (before : k < i). none_before k segment before)
              (λ (behind : i < k).
              let apart = at_apart P recon.segments (segments_row recon is) i k segment behind inside in
              let stands = at_stands P recon.segments (segments_row recon is) i segment within in
              let low = ap (λ (r : Range). r.lo) at in
              held_not_before (get_or recon.segments k segment) key (omega (arith, stands.some)))
              other)
              (cases_order k i)

      -- or it holds the key
      pub found_here : segment.lo ≤ key → Some (i, (key - segment.lo) / recon.width) ≡ leaf_at recon key
      found_here low =
          let there = slice_get_read recon.segments (length recon.segments) i segment refl within at in
          let high = leb-false segment.hi key (ap (ends_by key) at ∙ point.1 i segment (omega arith) within) in
          let found = segment_of-some P 0 ROOT_END recon.segments key i segment (segments_row recon is) there (has_key-within segment key low high) in
          sym (ap (option_and_then (λ j. option_map (λ (s : Range). (j, leaf_of recon.width s key)) (slice_get recon.segments j))) found ∙ ap (option_map (λ (s : Range). (i, leaf_of recon.width s key))) there)

      pub found_within : segment.lo ≤ key → has_key segment key ≡ true
      found_within low = has_key-within segment key low (leb-false segment.hi key (ap (ends_by key) at ∙ point.1 i segment (omega arith) within))

pub segment_read : (segments read : List Range) (i : ℕ) (segment : Range) → read ≡ segments → i < length read → segment ≡ get_or read i segment → (i < length segments) × (segment ≡ get_or segments i segment) × (slice_get segments i ≡ Some segment)
segment_read segments read i segment same within at =
    subst (λ (xs : List Range). (i < length xs) × (segment ≡ get_or xs i segment) × (slice_get xs i ≡ Some segment)) same (within, at, slice_get_read read (length read) i segment refl within at)

-- the keys of a node of it
pub extent_found : (recon : ReconValue) (seg n : ℕ) (segment : Range) → slice_get recon.segments seg ≡ Some segment → Some (extent recon.width segment n) ≡ extent_at recon seg n
extent_found recon seg n segment at = sym (ap (option_map (λ (s : Range). extent recon.width s n)) at)
