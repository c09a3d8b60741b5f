-- Parts of a buffer.
use Rattle.std.proofs.Common.{◌≡◌, ℕ, ◌+◌, ◌-◌, ◌<◌, ◌≤◌, List, [], ◌∷◌, ◌++◌, length, take, drop, Some, None, refl, sym, ap, ◌∙◌, subst, append_assoc, arith}
use Rattle.std.specs.Prelude.{slice_range, position, ◌==◌}
use Rattle.std.proofs.lemmas.List.{take-append-drop, take-take, drop-drop, drop-take, length-take-le, length-drop}
use Rattle.sq_text.specs.Pieces.{cut_at_ends}
use Rattle.sq_text.proofs.Ends.{no_end, first_end, unended_both}

pub empty_range : (xs : List ℕ) (a b : ℕ) → b ≤ a → slice_range xs a b ≡ []
empty_range xs a b none = let zero : b - a ≡ 0 = omega (arith, none) in rw zero refl

pub length_range : (xs : List ℕ) (a b : ℕ) → b ≤ length xs → length (slice_range xs a b) ≡ b - a
length_range xs a b within = length-take-le (b - a) (drop a xs) (omega (arith, within, length-drop a xs))

take_both : (n k : ℕ) (xs : List ℕ) → take (n + k) xs ≡ take n xs ++ take k (drop n xs)
take_both n k xs = sym (take-append-drop n (take (n + k) xs)) ∙ (λ i. take-take n (n + k) xs (omega arith) i ++ drop-take n k xs i)

pub split_range : (xs : List ℕ) (a m b : ℕ) → a ≤ m → m ≤ b → slice_range xs a b ≡ slice_range xs a m ++ slice_range xs m b
split_range xs a m b before after =
    let sum : b - a ≡ (m - a) + (b - m) = omega (arith, before, after) in
    let at : a + (m - a) ≡ m = omega (arith, before) in
    ap (λ n. take n (drop a xs)) sum ∙ take_both (m - a) (b - m) (drop a xs) ∙ ap (λ (l : List ℕ). take (m - a) (drop a xs) ++ take (b - m) l) (drop-drop (m - a) a xs ∙ ap (λ n. drop n xs) at)

-- the first parts of a part
pub take_range : (xs : List ℕ) (a b n : ℕ) → a + n ≤ b → take n (slice_range xs a b) ≡ slice_range xs a (a + n)
take_range xs a b n within =
    let less : a + n - a ≡ n = omega arith in
    take-take n (b - a) (drop a xs) (omega (arith, within)) ∙ ap (λ k. take k (drop a xs)) (sym less)

drop_range : (xs : List ℕ) (a b n : ℕ) → a + n ≤ b → drop n (slice_range xs a b) ≡ slice_range xs (a + n) b
drop_range xs a b n within =
    let sum : b - a ≡ n + (b - (a + n)) = omega (arith, within) in
    ap (λ k. drop n (take k (drop a xs))) sum ∙ drop-take n (b - (a + n)) (drop a xs) ∙ ap (take (b - (a + n))) (drop-drop n a xs)

-- a line that ends in a buffer whose bytes before a place are searched
pub record FoundLine (xs : List ℕ) (start at end : ℕ) : Type 0 where
  pub held : slice_range xs start end ≡ slice_range xs start at ++ (10 ∷ slice_range xs (at + 1) end)
  pub unended : cut_at_ends (slice_range xs start at) ≡ slice_range xs start at ∷ []
  pub count : length (slice_range xs start at) ≡ at - start
  pub within : at < end

pub found_line : (xs : List ℕ) (start searched end at : ℕ) → start ≤ searched → searched ≤ end → end ≤ length xs → cut_at_ends (slice_range xs start searched) ≡ slice_range xs start searched ∷ []
    → position (λ b. b == 10) (slice_range xs searched end) ≡ Some at → FoundLine xs start (searched + at) end
found_line xs start searched end at before after within unended found =
    let ends = first_end (slice_range xs searched end) at found in
    let below : searched + at < end = omega (arith, ends.within, length_range xs searched end within, after) in
    let front : take at (slice_range xs searched end) ≡ slice_range xs searched (searched + at) = take_range xs searched end at (omega (arith, below)) in
    let back : drop (at + 1) (slice_range xs searched end) ≡ slice_range xs (searched + at + 1) end = drop_range xs searched end (at + 1) (omega (arith, below)) ∙ ap (λ n. slice_range xs n end) (omega arith) in
    let line : slice_range xs start (searched + at) ≡ slice_range xs start searched ++ slice_range xs searched (searched + at) = split_range xs start searched (searched + at) before (omega arith) in
    record {
      held = split_range xs start searched end before after ∙ ap (λ (l : List ℕ). slice_range xs start searched ++ l) (ends.are ∙ (λ i. front i ++ (10 ∷ back i)))
          ∙ sym (append_assoc (slice_range xs start searched) (slice_range xs searched (searched + at)) (10 ∷ slice_range xs (searched + at + 1) end))
          ∙ ap (λ (l : List ℕ). l ++ (10 ∷ slice_range xs (searched + at + 1) end)) (sym line);
      unended = rw line (unended_both (slice_range xs start searched) (slice_range xs searched (searched + at)) unended (subst (λ (l : List ℕ). cut_at_ends l ≡ l ∷ []) front ends.unended));
      count = length_range xs start (searched + at) (omega (arith, below, within));
      within = below;
    }

-- no line ends in what is held
pub found_none : (xs : List ℕ) (start searched end : ℕ) → start ≤ searched → searched ≤ end → cut_at_ends (slice_range xs start searched) ≡ slice_range xs start searched ∷ []
    → position (λ b. b == 10) (slice_range xs searched end) ≡ None → cut_at_ends (slice_range xs start end) ≡ slice_range xs start end ∷ []
found_none xs start searched end before after unended none =
    rw (split_range xs start searched end before after) (unended_both (slice_range xs start searched) (slice_range xs searched end) unended (no_end (slice_range xs searched end) none))
