-- Bytes cut at the first of one byte.
use Rattle.std.proofs.Common.{◌≡◌, ℕ, ◌+◌, ◌<◌, ◌≤◌, Bool, true, false, not, cond, eqb, ltb, List, [], ◌∷◌, ◌++◌, length, get_or, take, drop, Some, None, refl, sym, ap, ◌∙◌, arith, add-one}
use Rattle.std.specs.Prelude.{position}
use Rattle.std.specs.List.{position_or_len}
use Rattle.std.proofs.Math.Seq.{drop-cons}
use Rattle.std.proofs.lemmas.Bool.{ltb-false}
use Rattle.std.proofs.lemmas.List.{take-append-drop, get_or-take, get_or_default, length-take}
use Rattle.std.proofs.lemmas.List.Sums.{prefix_len_passes}
use Rattle.std.proofs.lemmas.List.Quantifiers.{position-Some}
use Rattle.std.proofs.lemmas.List.Splits.{slice_split_at, slice_split_none}
use Rattle.sq_text.specs.Words.{split_by}

-- a place that is found ends the first part
pub split_by-at : (byte : ℕ) (bytes : List ℕ) (at : ℕ) → position (λ b. eqb b byte) bytes ≡ Some at → split_by byte bytes ≡ take at bytes ∷ split_by byte (drop (at + 1) bytes)
split_by-at byte bytes at e =
    let p : ℕ → Bool = λ b. eqb b byte in
    let found = position-Some p bytes at 0 e in
    let cut : bytes ≡ take at bytes ++ (get_or bytes at 0 ∷ drop (at + 1) bytes) = sym (take-append-drop at bytes) ∙ ap (λ (rest : List ℕ). take at bytes ++ rest) (rw add-one (drop-cons bytes at 0 found.0)) in
    ap (split_by byte) cut ∙ slice_split_at p (take at bytes) (get_or bytes at 0) (drop (at + 1) bytes) (λ k d lt. rw (get_or-take at bytes k d (omega (arith, length-take at bytes)), get_or_default bytes k d 0 (omega (arith, length-take at bytes))) (found.2 k (omega (arith, length-take at bytes)))) found.1

off : (b : Bool) → not b ≡ true → b ≡ false
off true e = absurd cc
off false e = refl

-- no byte passes before the first place that does
before_place : (p : ℕ → Bool) (xs : List ℕ) (k d : ℕ) → k < position_or_len p xs → p (get_or xs k d) ≡ false
before_place p xs k d lt = off (p (get_or xs k d)) (prefix_len_passes (λ x. not (p x)) xs k d lt)

place_none : (p : ℕ → Bool) (xs : List ℕ) (b : Bool) (n : ℕ) → cond b (Some n) None ≡ None → b ≡ false
place_none p xs true n e = absurd cc
place_none p xs false n e = refl

pub split_by-none : (byte : ℕ) (bytes : List ℕ) → position (λ b. eqb b byte) bytes ≡ None → split_by byte bytes ≡ bytes ∷ []
split_by-none byte bytes e =
    let p : ℕ → Bool = λ b. eqb b byte in
    let past : length bytes ≤ position_or_len p bytes = ltb-false _ _ (place_none p bytes (ltb (position_or_len p bytes) (length bytes)) (position_or_len p bytes) e) in
    slice_split_none p bytes (λ k d lt. before_place p bytes k d (omega arith))
