-- Ranges that are cut into segments.
use Rattle.std.proofs.Common.{◌≡◌, ◌≢◌, ⊎_elim, ℕ, zero, suc, ◌+◌, ◌-◌, ◌*◌, ◌/◌, ◌%◌, ◌<◌, ◌≤◌, min, true, List, [], ◌∷◌, ◌++◌, map, length, get_or, refl, sym, ap, ◌∙◌, arith, ◌&&◌, nat_lt, nat_le, not, ◌==◌, length-append}
use Rattle.std.specs.List.{range_with_len}
use Rattle.std.proofs.Math.Nat.{div-mul-le_self, lt-div-mul-add, div-eq_of_lt-le}
use Rattle.std.proofs.lemmas.Nat.{le-div}
use Rattle.std.proofs.lemmas.Grind.{div_ceil_times}
use Rattle.std.proofs.lemmas.Bool.{and_parts, and_from, or_cases, or_left, or_right, eqb-false, leb-true, ltb-true, le-leb, lt-ltb, ne_eqb, not-true, not_from_false}
use Rattle.std.proofs.lemmas.List.Folds.{list_any-append, list_any_at}
use Rattle.std.proofs.lemmas.List.{append-nil, append_assoc}
use Rattle.std.proofs.lemmas.List.Concat.{flat_map-append}
use Rattle.std.proofs.lemmas.List.FromFn.{length-map-range_with_len, get_or-map-range_with_len}
use Rattle.sq_schema.specs.declared.root.TheConstants.{ROOT_END}
use Rattle.sq_plan.specs.PlanValue.{PlanValue}
use Rattle.sq_moves.specs.declared.recon.Range.{Range}
use Rattle.sq_moves.specs.ReconValue.{has_key, segment_width, segment_at, segment_count, segments_in, segments_of, are_in_key_order}
use Rattle.sq_moves.specs.Moves.{IsMovingRun}
use Rattle.sq_moves.proofs.Rows.{Row, row_lower, row-append, row_bounds}
use Rattle.sq_moves.proofs.Joins.{any_has_key, has_key-bounds, has_key-within}

-- how often a width goes into a length, rounded up
count_begins : (d s i : ℕ) → 0 < s → i < (d + s - 1) / s → i * s < d
count_begins d s i some less =
    let fits = div-mul-le_self (d + s - 1) s in
    let more : (i + 1) * s ≤ (d + s - 1) / s * s = grind arith in
    omega arith

count_covers : (d s x : ℕ) → 0 < s → x < d → x / s < (d + s - 1) / s
count_covers d s x some less =
    let fits = div-mul-le_self x s in
    let more : (x / s + 1) * s ≤ d + s - 1 = omega arith in
    let enough = le-div (x / s + 1) (d + s - 1) s some more in
    omega arith

pub segment_width_some : (width : ℕ) → 1 ≤ width → 0 < segment_width width
segment_width_some width some = omega arith

-- part of a range
abbrev pub part : Range → ℕ → ℕ → Range
part range lo hi = record { lo = lo; hi = hi; src = range.src; dst = range.dst }

-- what holds of each segment of this width of a range, since it is a part of it that isn't longer
abbrev pub OfParts : ℕ → (Range → Type 0) → Range → Type 0
OfParts width Q range = (lo hi : ℕ) → range.lo ≤ lo → lo < hi → hi ≤ range.hi → hi ≤ lo + segment_width width → Q (part range lo hi)

module _ (width : ℕ) (some : 1 ≤ width) where
  segments_from : (Q : Range → Type 0) (range : Range) (b a n : ℕ) → OfParts width Q range → a + n ≡ segment_count width range → b ≤ range.lo + a * segment_width width → b ≤ range.hi → Row Q b range.hi (map (segment_at width range) (range_with_len a n))
  segments_from Q range b a zero each end low high = high
  segments_from Q range b a (suc n) each end low high =
      let s = segment_width width in
      let begins : a * s < range.hi - range.lo = count_begins (range.hi - range.lo) s a (segment_width_some width some) (omega arith) in
      let next : (a + 1) * s ≡ a * s + s = omega arith in
      let hi = min range.hi (range.lo + (a + 1) * s) in (
        low,
        omega arith,
        each (range.lo + a * s) hi (omega arith) (omega arith) (omega arith) (omega arith),
        segments_from Q range hi (a + 1) n each (omega arith) (omega arith) (omega arith),
      )

  -- the segments of a range are a row from its low end to its high end
  pub segments_in-row : (Q : Range → Type 0) (range : Range) → range.lo ≤ range.hi → OfParts width Q range → Row Q range.lo range.hi (segments_in width range)
  segments_in-row Q range le each = segments_from Q range range.lo 0 (segment_count width range) each (omega arith) (omega arith) le

  pub segments_of-row : (P Q : Range → Type 0) (lo hi : ℕ) (ranges : List Range) → ((range : Range) → P range → OfParts width Q range) → Row P lo hi ranges → Row Q lo hi (segments_of width ranges)
  segments_of-row P Q lo hi [] parts row = row
  segments_of-row P Q lo hi (range ∷ ranges) parts row =
      row_lower Q range.lo lo hi (segments_in width range ++ segments_of width ranges) row.0
      (row-append Q range.lo range.hi hi (segments_in width range) (segments_of width ranges)
      (segments_in-row Q range (omega (arith, row.1)) (parts range row.2))
      (segments_of-row P Q range.hi hi ranges parts row.3))

  -- one of them holds each key of the range
  pub segments_in-cover : (range : Range) (key : ℕ) → has_key range key ≡ true → any_has_key (segments_in width range) key ≡ true
  segments_in-cover range key held =
      let s = segment_width width in
      let positive = segment_width_some width some in
      let bounds = has_key-bounds range key held in
      let i = (key - range.lo) / s in
      let count = segment_count width range in
      let inside : i < count = count_covers (range.hi - range.lo) s (key - range.lo) positive (omega arith) in
      let segment = segment_at width range i in
      let at : get_or (segments_in width range) i range ≡ segment = get_or-map-range_with_len (segment_at width range) 0 count i i range inside (omega arith) in
      let long : length (segments_in width range) ≡ count = length-map-range_with_len (segment_at width range) 0 count in
      let below = div-mul-le_self (key - range.lo) s in
      let above : key - range.lo < i * s + s = lt-div-mul-add positive in
      let next : (i + 1) * s ≡ i * s + s = omega arith in
      list_any_at (λ r. has_key r key) (segments_in width range) i range (omega arith) (ap (λ (r : Range). has_key r key) at ∙ has_key-within segment key (omega arith) (omega arith))

  pub segments_of-cover : (ranges : List Range) (key : ℕ) → any_has_key ranges key ≡ true → any_has_key (segments_of width ranges) key ≡ true
  segments_of-cover [] key held = held
  segments_of-cover (range ∷ ranges) key held =
      list_any-append (λ r. has_key r key) (segments_in width range) (segments_of width ranges) ∙ ⊎_elim
      (λ (here : has_key range key ≡ true). or_left (any_has_key (segments_in width range) key) (any_has_key (segments_of width ranges) key) (segments_in-cover range key here))
      (λ (further : any_has_key ranges key ≡ true). or_right (any_has_key (segments_in width range) key) (any_has_key (segments_of width ranges) key) (segments_of-cover ranges key further))
      (or_cases (has_key range key) (any_has_key ranges key) held)

pub run_parts : (old new : PlanValue) (width : ℕ) (range : Range) → IsMovingRun old new range → OfParts width (IsMovingRun old new) range
run_parts old new width range run lo hi low some high short = record {
  some = some;
  within = omega (arith, run.within);
  moves = run.moves;
  owned = λ key from to. run.owned key (omega arith) (omega arith);
}

-- a segment goes from one partition to another, and isn't longer than its leaves
pub record IsSegment (width : ℕ) (segment : Range) : Type 0 where
  pub moves : segment.src ≢ segment.dst
  pub short : segment.hi ≤ segment.lo + segment_width width

pub segment_parts : (width : ℕ) (range : Range) → range.src ≢ range.dst → OfParts width (IsSegment width) range
segment_parts width range moves lo hi low some high short = record { moves = moves; short = short }

-- ranges that rise are a row
abbrev pub Moves : Range → Type 0
Moves range = range.src ≢ range.dst

rising_parts : (lo : ℕ) (range : Range) (ranges : List Range) → are_in_key_order lo (range ∷ ranges) ≡ true → (lo ≤ range.lo) × (range.lo < range.hi) × (range.hi ≤ ROOT_END) × (range.src ≢ range.dst) × (are_in_key_order range.hi ranges ≡ true)
rising_parts lo range ranges rising =
    let rest = are_in_key_order range.hi ranges in
    let moves = not (range.src == range.dst) in
    let one = and_parts (nat_le lo range.lo) (nat_lt range.lo range.hi && (nat_le range.hi ROOT_END && (moves && rest))) rising in
    let two = and_parts (nat_lt range.lo range.hi) (nat_le range.hi ROOT_END && (moves && rest)) one.1 in
    let three = and_parts (nat_le range.hi ROOT_END) (moves && rest) two.1 in
    let four = and_parts moves rest three.1 in
    (leb-true lo range.lo one.0, ltb-true range.lo range.hi two.0, leb-true range.hi ROOT_END three.0, eqb-false range.src range.dst (not-true (range.src == range.dst) four.0), four.1)

pub row_from_rising : (lo : ℕ) (ranges : List Range) → lo ≤ ROOT_END → are_in_key_order lo ranges ≡ true → Row Moves lo ROOT_END ranges
row_from_rising lo [] within rising = within
row_from_rising lo (range ∷ ranges) within rising =
    let parts = rising_parts lo range ranges rising in
    (parts.0, parts.1, parts.3, row_from_rising range.hi ranges parts.2 parts.4)

pub rising_from_row : (P : Range → Type 0) → ((range : Range) → P range → range.src ≢ range.dst) → (lo : ℕ) (ranges : List Range) → Row P lo ROOT_END ranges → are_in_key_order lo ranges ≡ true
rising_from_row P moves lo [] row = refl
rising_from_row P moves lo (range ∷ ranges) row =
    let rest = row_bounds P range.hi ROOT_END ranges row.3 in
    and_from (nat_le lo range.lo) (nat_lt range.lo range.hi && (nat_le range.hi ROOT_END && (not (range.src == range.dst) && are_in_key_order range.hi ranges))) (le-leb lo range.lo row.0)
    (and_from (nat_lt range.lo range.hi) (nat_le range.hi ROOT_END && (not (range.src == range.dst) && are_in_key_order range.hi ranges)) (lt-ltb range.lo range.hi row.1)
    (and_from (nat_le range.hi ROOT_END) (not (range.src == range.dst) && are_in_key_order range.hi ranges) (le-leb range.hi ROOT_END rest)
    (and_from (not (range.src == range.dst)) (are_in_key_order range.hi ranges) (not_from_false (range.src == range.dst) (ne_eqb range.src range.dst (moves range row.2)))
    (rising_from_row P moves range.hi ranges row.3))))

-- how many segments there are
pub length-segments_in : (width : ℕ) (range : Range) → length (segments_in width range) ≡ segment_count width range
length-segments_in width range = length-map-range_with_len (segment_at width range) 0 (segment_count width range)

-- a division that is rounded up
pub count_is : (d s : ℕ) → 0 < s → (d + s - 1) / s ≡ d / s + min 1 (d % s)
count_is d s some =
    let count = d / s + min 1 (d % s) in
    let bounds = div_ceil_times d s some in
    div-eq_of_lt-le {k = count} s {m = d + s - 1} (omega (arith, bounds.1)) (omega (arith, bounds.0))

-- one range more
pub length-segments_of-append : (width : ℕ) (ones others : List Range) → length (segments_of width (ones ++ others)) ≡ length (segments_of width ones) + length (segments_of width others)
length-segments_of-append width ones others =
    ap length (flat_map-append (segments_in width) ones others) ∙ length-append (segments_of width ones) (segments_of width others)

pub length-segments_of-push : (width : ℕ) (ranges : List Range) (range : Range) → length (segments_of width (ranges ++ range ∷ [])) ≡ length (segments_of width ranges) + segment_count width range
length-segments_of-push width ranges range =
    length-segments_of-append width ranges (range ∷ [])
    ∙ ap (λ (n : ℕ). length (segments_of width ranges) + n) (ap length (append-nil (segments_in width range)) ∙ length-segments_in width range)

-- ranges that came, with the next of those to come
pub split_more : (all done rest rest' : List Range) (range : Range) → all ≡ done ++ rest → rest ≡ range ∷ rest' → all ≡ (done ++ range ∷ []) ++ rest'
split_more all done rest rest' range is next = is ∙ ap (λ (rs : List Range). done ++ rs) next ∙ sym (append_assoc done (range ∷ []) rest')

-- those that came are all
pub split_all : (all done rest : List Range) → all ≡ done ++ rest → rest ≡ [] → done ≡ all
split_all all done rest is none = sym (is ∙ ap (λ (rs : List Range). done ++ rs) none ∙ append-nil done)
