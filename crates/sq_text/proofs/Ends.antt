-- Bytes cut at the bytes that end lines.
use Rattle.std.proofs.Common.{◌≡◌, ℕ, ◌+◌, ◌<◌, ◌≤◌, Bool, true, false, not, cond, eqb, ltb, List, [], ◌∷◌, ◌++◌, length, get_or, take, drop, Some, None, refl, sym, ap, ◌∙◌, arith, add-one}
use Rattle.std.specs.Prelude.{position}
use Rattle.std.specs.List.{position_or_len}
use Rattle.std.proofs.Math.Seq.{drop-cons}
use Rattle.std.proofs.lemmas.Bool.{ltb-false, eqb-true}
use Rattle.std.proofs.lemmas.List.{append-nil, take-append-drop, get_or-take, get_or_default, length-take}
use Rattle.std.proofs.lemmas.List.Sums.{prefix_len_passes}
use Rattle.std.proofs.lemmas.List.Quantifiers.{position-Some}
use Rattle.std.proofs.lemmas.List.Splits.{slice_split_none}
use Rattle.sq_text.specs.Pieces.{cut_at_ends}

off : (b : Bool) → not b ≡ true → b ≡ false
off true e = absurd cc
off false e = refl

-- no byte ends a line before the first that does
before_end : (xs : List ℕ) (k d : ℕ) → k < position_or_len (λ b. eqb b 10) xs → eqb (get_or xs k d) 10 ≡ false
before_end xs k d lt = off (eqb (get_or xs k d) 10) (prefix_len_passes (λ x. not (eqb x 10)) xs k d lt)

place_none : (b : Bool) (n : ℕ) → cond b (Some n) None ≡ None → b ≡ false
place_none true n e = absurd cc
place_none false n e = refl

-- bytes in which no line ends are one part
pub no_end : (bytes : List ℕ) → position (λ b. eqb b 10) bytes ≡ None → cut_at_ends bytes ≡ bytes ∷ []
no_end bytes e =
    let place = position_or_len (λ b. eqb b 10) bytes in
    let past : length bytes ≤ place = ltb-false _ _ (place_none (ltb place (length bytes)) place e) in
    slice_split_none (λ b. eqb b 10) bytes (λ k d lt. before_end bytes k d (omega arith))

-- bytes up to a line end, in which no line ends, and then what comes after it
pub record EndsAt (bytes : List ℕ) (at : ℕ) : Type 0 where
  pub unended : cut_at_ends (take at bytes) ≡ take at bytes ∷ []
  pub are : bytes ≡ take at bytes ++ (10 ∷ drop (at + 1) bytes)
  pub within : at < length bytes

pub first_end : (bytes : List ℕ) (at : ℕ) → position (λ b. eqb b 10) bytes ≡ Some at → EndsAt bytes at
first_end bytes at e =
    let found = position-Some (λ b. eqb b 10) bytes at 0 e in
    let is : get_or bytes at 0 ≡ 10 = eqb-true (get_or bytes at 0) 10 found.1 in
    record {
      unended = slice_split_none (λ b. eqb b 10) (take at bytes) (λ k d lt. rw (get_or-take at bytes k d (omega (arith, length-take at bytes)), get_or_default bytes k d 0 (omega (arith, length-take at bytes))) (found.2 k (omega (arith, length-take at bytes))));
      are = sym (take-append-drop at bytes) ∙ ap (λ (rest : List ℕ). take at bytes ++ rest) (rw add-one (drop-cons bytes at 0 found.0)) ∙ ap (λ b. take at bytes ++ (b ∷ drop (at + 1) bytes)) is;
      within = found.0;
    }

-- bytes have a first part
pub record HasFirst (bytes : List ℕ) : Type 0 where
  pub first : List ℕ
  pub others : List (List ℕ)
  pub are : cut_at_ends bytes ≡ first ∷ others

put_first : (x : ℕ) (xs : List ℕ) → HasFirst xs → HasFirst (x ∷ xs)
put_first x xs rest = by_test (eqb x 10) refl
  where
    by_test : (b : Bool) → eqb x 10 ≡ b → HasFirst (x ∷ xs)
    by_test true e = record { first = []; others = cut_at_ends xs; are = rw e refl }
    by_test false e = record { first = x ∷ rest.first; others = rest.others; are = rw (e, rest.are) refl }

pub has_first : (bytes : List ℕ) → HasFirst bytes
has_first [] = record { first = []; others = []; are = refl }
has_first (x ∷ xs) = put_first x xs (has_first xs)

-- the parts of a longer list, where no line ends in its front
pub unended_then : (xs more first : List ℕ) (others : List (List ℕ)) → cut_at_ends xs ≡ xs ∷ [] → cut_at_ends more ≡ first ∷ others → cut_at_ends (xs ++ more) ≡ (xs ++ first) ∷ others
unended_then [] more first others e f = f
unended_then (x ∷ xs) more first others e f = by_test (eqb x 10) refl (has_first xs) (λ inner. unended_then xs more first others inner f)
  where
    by_test : (b : Bool) → eqb x 10 ≡ b → HasFirst xs → (cut_at_ends xs ≡ xs ∷ [] → cut_at_ends (xs ++ more) ≡ (xs ++ first) ∷ others) → cut_at_ends (x ∷ (xs ++ more)) ≡ (x ∷ (xs ++ first)) ∷ others
    by_test true is rest after =
        let same : [] ∷ cut_at_ends xs ≡ (x ∷ xs) ∷ [] = (rw is refl) ∙ e in
        absurd cc
    by_test false is rest after =
        let same : (x ∷ rest.first) ∷ rest.others ≡ (x ∷ xs) ∷ [] = (rw (is, rest.are) refl) ∙ e in
        let inner : cut_at_ends xs ≡ xs ∷ [] = rest.are ∙ cc in
        rw (is, after inner) refl

-- a line and what comes after its end
pub line_then_parts : (line rest : List ℕ) → cut_at_ends line ≡ line ∷ [] → cut_at_ends (line ++ (10 ∷ rest)) ≡ line ∷ cut_at_ends rest
line_then_parts line rest e = unended_then line (10 ∷ rest) [] (cut_at_ends rest) e refl ∙ ap (λ (l : List ℕ). l ∷ cut_at_ends rest) (append-nil line)

-- two parts in which no line ends
pub unended_both : (xs ys : List ℕ) → cut_at_ends xs ≡ xs ∷ [] → cut_at_ends ys ≡ ys ∷ [] → cut_at_ends (xs ++ ys) ≡ (xs ++ ys) ∷ []
unended_both xs ys e f = unended_then xs ys ys [] e f
