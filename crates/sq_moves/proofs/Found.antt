-- The segment of a key.
use Rattle.std.proofs.Common.{◌≡◌, ◌⊎◌, ⊎_elim, ℕ, ◌<◌, Bool, true, false, cond, List, [], ◌∷◌, length, get_or, Some, None, refl, sym, ap, ◌∙◌, arith, not, nat_lt}
use Rattle.std.specs.Prelude.{slice_get, position}
use Rattle.std.specs.List.{list_any, position_or_len}
use Rattle.std.proofs.lemmas.Bool.{lt-ltb, le-ltb, ltb-false, cond-true, cond-false, cases_order, false_from_ne_true, not-true}
use Rattle.std.proofs.lemmas.List.Folds.{list_any_none}
use Rattle.std.proofs.lemmas.List.Quantifiers.{position-Some}
use Rattle.std.proofs.lemmas.List.Sums.{position_or_len_is, prefix_len_passes}
use Rattle.std.proofs.lemmas.Option.{none-some, slice_get-get_or, slice_get_within, get_or_from_slice_get}
use Rattle.sq_moves.specs.declared.recon.Range.{Range}
use Rattle.sq_moves.specs.ReconValue.{has_key, segment_of}
use Rattle.sq_moves.proofs.Rows.{Row, row_apart}
use Rattle.sq_moves.proofs.Joins.{any_has_key, has_key-bounds}

-- the first place that passes a test
module _ {X : Type 0} (p : X → Bool) where
  pub position_at : (xs : List X) (i : ℕ) (d : X) → i < length xs → p (get_or xs i d) ≡ true → ((k : ℕ) → k < i → p (get_or xs k d) ≡ false) → position p xs ≡ Some i
  position_at xs i d within here before =
      let at = position_or_len_is p xs i d (omega arith) before (λ _. here) in
      ap (λ (n : ℕ). cond (nat_lt n (length xs)) (Some n) None) at ∙ cond-true (nat_lt i (length xs)) (Some i) None (lt-ltb i (length xs) within)

  pub position_past : (xs : List X) (d : X) → ((k : ℕ) → k < length xs → p (get_or xs k d) ≡ false) → position p xs ≡ None
  position_past xs d none =
      let n = length xs in
      let at = position_or_len_is p xs n d (omega arith) none (λ less. absurd (omega arith)) in
      ap (λ (m : ℕ). cond (nat_lt m n) (Some m) None) at ∙ cond-false (nat_lt n n) (Some n) None (le-ltb n n (omega arith))

  none_from_position : (b : Bool) (n : ℕ) → cond b (Some n) None ≡ None → b ≡ false
  none_from_position true n e = absurd (none-some n (sym e))
  none_from_position false n e = refl

  pub none_passes : (xs : List X) → position p xs ≡ None → list_any p xs ≡ false
  none_passes xs e =
      let past = ltb-false (position_or_len p xs) (length xs) (none_from_position (nat_lt (position_or_len p xs) (length xs)) (position_or_len p xs) e) in
      list_any_none p xs (λ k d within. not-true (p (get_or xs k d)) (prefix_len_passes (λ x. not (p x)) xs k d (omega arith)))

-- of ranges in a row one holds a key
pub one_holder : (P : Range → Type 0) (lo hi : ℕ) (ranges : List Range) (i j key : ℕ) (one other : Range) → Row P lo hi ranges → slice_get ranges i ≡ Some one → slice_get ranges j ≡ Some other → has_key one key ≡ true → has_key other key ≡ true → i ≡ j
one_holder P lo hi ranges i j key one other row at at' held held' =
    let bounds = has_key-bounds one key held in
    let bounds' = has_key-bounds other key held' in
    ⊎_elim
    (λ (same : i ≡ j). same)
    (λ (differ : (i < j) ⊎ (j < i)). ⊎_elim
    (λ (before : i < j). let apart = row_apart P lo hi ranges i j one other row at at' before in absurd (omega arith))
    (λ (behind : j < i). let apart = row_apart P lo hi ranges j i other one row at' at behind in absurd (omega arith))
    differ)
    (cases_order i j)

-- the segment that holds a key is the one of its number
pub segment_of-some : (P : Range → Type 0) (lo hi : ℕ) (segments : List Range) (key i : ℕ) (segment : Range) → Row P lo hi segments → slice_get segments i ≡ Some segment → has_key segment key ≡ true → segment_of segments key ≡ Some i
segment_of-some P lo hi segments key i segment row at held =
    let within = slice_get_within segments i segment at in
    position_at (λ r. has_key r key) segments i segment within (ap (λ (r : Range). has_key r key) (get_or_from_slice_get segments i segment segment at) ∙ held)
    (λ k less. false_from_ne_true (has_key (get_or segments k segment) key) (λ there.
    let same = one_holder P lo hi segments k i key (get_or segments k segment) segment row (slice_get-get_or segments k segment (omega arith)) at there held in
    omega arith))

-- and the segment of that number holds it
pub segment_of-has_key : (segments : List Range) (key i : ℕ) → segment_of segments key ≡ Some i → (segment : Range) × (slice_get segments i ≡ Some segment) × (has_key segment key ≡ true)
segment_of-has_key segments key i e = holder segments e
  where
    holder : (xs : List Range) → position (λ r. has_key r key) xs ≡ Some i → (segment : Range) × (slice_get xs i ≡ Some segment) × (has_key segment key ≡ true)
    holder [] found = absurd (none-some i found)
    holder (x ∷ xs) found =
        let facts = position-Some (λ r. has_key r key) (x ∷ xs) i x found in
        (get_or (x ∷ xs) i x, slice_get-get_or (x ∷ xs) i x facts.0, facts.1)

pub segment_of-none : (segments : List Range) (key : ℕ) → segment_of segments key ≡ None → any_has_key segments key ≡ false
segment_of-none segments key e = none_passes (λ r. has_key r key) segments e
