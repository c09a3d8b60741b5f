-- Notes in the order of their first keys: which of them covers a key.
use Rattle.std.proofs.Common.{◌≡◌, ⊎_elim, ℕ, ◌-◌, ◌<◌, ◌≤◌, true, false, nat_le, nat_lt, List, length, get_or, take, slice_get, find, Contains, Some, None, sym, ap, ◌∙◌, subst, arith}
use Rattle.std.specs.List.Sorted.{IsNonDecreasingBy, IsPartitionPoint}
use Rattle.std.proofs.lemmas.Bool.{cases_lt, and_from, le-leb, lt-ltb, ltb-true, leb-true, leb-false}
use Rattle.std.proofs.lemmas.List.{length-map, get_or-map, length-take-le}
use Rattle.std.proofs.lemmas.List.Sorted.{IsPartitionedBy-leb}
use Rattle.std.proofs.lemmas.Option.{slice_get_within, get_or_from_slice_get}
use Rattle.sq_gather.proofs.Prelude.{covers_bounds, Contains-slice_get, slice_get-Contains, at_map, map_at, stands_at, some_found, none_found}
use Rattle.sq_audit.specs.declared.spans.Span.{Span}
use Rattle.sq_audit.specs.Spans.{Marked, marked_of, marked_in, first_key, is_over, AreByKey}
use Rattle.sq_audit.proofs.Lists.{PartsAt, taken_at}

-- that the first keys rise, of what is marked and of what marks it
pub rise_marked : (spans : List Span) → IsNonDecreasingBy (λ span. span.note.now.lo) spans → IsNonDecreasingBy first_key (marked_in spans)
rise_marked spans rise i j d upto within =
    let inside : j < length spans = subst (λ n. j < n) (length-map spans marked_of) within in
    let one = (stands_at spans i (omega (arith, upto, inside))).0 in
    let here = get_or-map marked_of spans i one d (omega (arith, upto, inside)) in
    let there = get_or-map marked_of spans j one d inside in
    subst (λ (m : Marked). m.0.lo ≤ (get_or (marked_in spans) j d).0.lo) (sym here) (subst (λ (m : Marked). (marked_of (get_or spans i one)).0.lo ≤ m.0.lo) (sym there) (rise i j one upto inside))

pub rise_spans : (spans : List Span) → IsNonDecreasingBy first_key (marked_in spans) → IsNonDecreasingBy (λ span. span.note.now.lo) spans
rise_spans spans rise i j d upto within =
    let inside : j < length (marked_in spans) = subst (λ n. j < n) (sym (length-map spans marked_of)) within in
    let here = get_or-map marked_of spans i d (marked_of d) (omega (arith, upto, within)) in
    let there = get_or-map marked_of spans j d (marked_of d) within in
    subst (λ (m : Marked). m.0.lo ≤ (get_or spans j d).note.now.lo) here (subst (λ (m : Marked). (get_or (marked_in spans) i (marked_of d)).0.lo ≤ m.0.lo) there (rise i j (marked_of d) upto inside))

-- what the last of the first ones is
pub record IsLastOf {X : Type 0} (xs : List X) (count : ℕ) (x : X) : Type 0 where
  pub some : 0 < count
  pub there : slice_get xs (count - 1) ≡ Some x

pub last_is : {X : Type 0} (xs : List X) (count : ℕ) (x : X) → slice_get (take count xs) (length (take count xs) - 1) ≡ Some x → count ≤ length xs → IsLastOf xs count x
last_is xs count x at within =
    let long = length-take-le count xs within in
    let inside = slice_get_within (take count xs) (length (take count xs) - 1) x at in
    let stood = taken_at xs count (length (take count xs) - 1) x at in
    record { some = omega (arith, long, inside); there = subst (λ n. slice_get xs (n - 1) ≡ Some x) long stood.there }

pub no_last : {X : Type 0} (xs : List X) (count : ℕ) → None ≡ slice_get (take count xs) (length (take count xs) - 1) → count ≤ length xs → count ≡ 0
no_last xs count none within =
    ⊎_elim
    (λ some.
    let long = length-take-le count xs within in
    let last = stands_at (take count xs) (length (take count xs) - 1) (omega (arith, long, some)) in
    absurd (let e = none ∙ last.1 in cc))
    (λ few. omega (arith, few))
    (cases_lt 0 count)

module _ (notes : List Marked) (by : AreByKey notes) (key count : ℕ)
    (low : (k : ℕ) (one : Marked) → slice_get notes k ≡ Some one → k < count → one.0.lo ≤ key)
    (high : (k : ℕ) (one : Marked) → slice_get notes k ≡ Some one → count ≤ k → key < one.0.lo) where
  -- a note that covers the key is one of the first
  among_first : (one : Marked) (has : Contains notes one) → is_over key one ≡ true → has.0 < count
  among_first one has covered =
      ⊎_elim
      (λ before. before)
      (λ behind.
      let above = high has.0 one (slice_get-Contains notes one has) behind in
      let from = (covers_bounds one.0 key covered).0 in
      absurd (omega (arith, above, from)))
      (cases_lt has.0 count)

  pub none_first : count ≡ 0 → find (is_over key) notes ≡ None
  none_first none = none_found (is_over key) notes (λ one has covered. let before = among_first one has covered in omega (arith, none, before))

  module _ (last : Marked) (is : IsLastOf notes count last) where
    last_low : last.0.lo ≤ key
    last_low = let some = is.some in low (count - 1) last is.there (omega (arith, some))

    last_among : Contains notes last
    last_among = Contains-slice_get notes (count - 1) last is.there

    pub found_last : key < last.0.hi → find (is_over key) notes ≡ Some last
    found_last below =
        let covered = and_from (nat_le last.0.lo key) (nat_lt key last.0.hi) (le-leb last.0.lo key last_low) (lt-ltb key last.0.hi below) in
        let found = some_found (is_over key) notes last last_among covered in
        found.found ∙ ap Some (by.apart found.one last key found.among last_among found.passes covered)

    pub none_last : last.0.hi ≤ key → find (is_over key) notes ≡ None
    none_last past =
        none_found (is_over key) notes (λ one has covered.
        let before = among_first one has covered in
        let bounds = covers_bounds one.0 key covered in
        let above = bounds.1 in
        let at = slice_get-Contains notes one has in
        let within = slice_get_within notes (count - 1) last is.there in
        let here = get_or_from_slice_get notes has.0 one one at in
        let there = get_or_from_slice_get notes (count - 1) last one is.there in
        let rises : one.0.lo ≤ last.0.lo = subst (λ (m : Marked). m.0.lo ≤ last.0.lo) here (subst (λ (m : Marked). (get_or notes has.0 one).0.lo ≤ m.0.lo) there (by.sorted has.0 (count - 1) one (omega (arith, before)) within)) in
        let keys = ltb-true last.0.lo last.0.hi (by.some last last_among) in
        let lowest = last_low in
        let covers_first = and_from (nat_le one.0.lo last.0.lo) (nat_lt last.0.lo one.0.hi) (le-leb one.0.lo last.0.lo rises) (lt-ltb last.0.lo one.0.hi (omega (arith, lowest, above))) in
        let covers_its = and_from (nat_le last.0.lo last.0.lo) (nat_lt last.0.lo last.0.hi) (le-leb last.0.lo last.0.lo (omega arith)) (lt-ltb last.0.lo last.0.hi keys) in
        let same = by.apart one last last.0.lo has last_among covers_first covers_its in
        let hi = ap (λ (m : Marked). m.0.hi) same in
        omega (arith, above, past, hi))

-- the last of those that begin at a key or before it
module _ (spans : List Span) (by : AreByKey (marked_in spans)) (key count : ℕ) (few : count ≤ length spans)
    (point : PartsAt (λ (span : Span). nat_le span.note.now.lo key) spans count) where
  parted : IsPartitionPoint (λ span. nat_le span.note.now.lo key ≡ true) (λ span. nat_le span.note.now.lo key ≡ false) spans count
  parted = point (IsPartitionedBy-leb (λ span. span.note.now.lo) spans key (rise_spans spans by.sorted))

  low : (k : ℕ) (one : Marked) → slice_get (marked_in spans) k ≡ Some one → k < count → one.0.lo ≤ key
  low k one at before =
      let from = map_at marked_of spans k one at in
      let here = get_or_from_slice_get spans k from.0 from.0 from.1 in
      let test : nat_le from.0.note.now.lo key ≡ true = ap (λ (span : Span). nat_le span.note.now.lo key) (sym here) ∙ parted.0 k from.0 (omega arith) before in
      subst (λ (m : Marked). m.0.lo ≤ key) from.2 (leb-true from.0.note.now.lo key test)

  high : (k : ℕ) (one : Marked) → slice_get (marked_in spans) k ≡ Some one → count ≤ k → key < one.0.lo
  high k one at behind =
      let from = map_at marked_of spans k one at in
      let here = get_or_from_slice_get spans k from.0 from.0 from.1 in
      let test : nat_le from.0.note.now.lo key ≡ false = ap (λ (span : Span). nat_le span.note.now.lo key) (sym here) ∙ parted.1 k from.0 behind (slice_get_within spans k from.0 from.1) in
      subst (λ (m : Marked). key < m.0.lo) from.2 (leb-false from.0.note.now.lo key test)

  pub nothing_covers : None ≡ slice_get (take count spans) (length (take count spans) - 1) → find (is_over key) (marked_in spans) ≡ None
  nothing_covers none = none_first (marked_in spans) by key count low high (no_last spans count none few)

  module _ (last : Span) (at : Some last ≡ slice_get (take count spans) (length (take count spans) - 1)) where
    marked_last : IsLastOf (marked_in spans) count (marked_of last)
    marked_last = let is = last_is spans count last (sym at) few in record { some = is.some; there = at_map marked_of spans (count - 1) last is.there }

    pub last_covers : key < last.note.now.hi → find (is_over key) (marked_in spans) ≡ Some (marked_of last)
    last_covers = found_last (marked_in spans) by key count low high (marked_of last) marked_last

    pub last_ends : last.note.now.hi ≤ key → find (is_over key) (marked_in spans) ≡ None
    last_ends = none_last (marked_in spans) by key count low high (marked_of last) marked_last
