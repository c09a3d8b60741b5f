-- Lists whose elements are each seen by a part of them.
use Rattle.std.proofs.Common.{◌≡◌, ℕ, ◌<◌, ◌≤◌, List, map, length, get_or, set, inl, inr, sym, ap, ◌∙◌, arith}
use Rattle.std.proofs.lemmas.Bool.{cases_lt}
use Rattle.std.proofs.lemmas.List.{get_or-map, map-set, length-map, set_past}
use Rattle.std.proofs.Math.Seq.{map-set_same}

module _ {A B : Type 0} (f : A → B) (xs : List A) where
  -- an element that is read
  pub seen_read : (i : ℕ) (x : A) (none : B) → i < length xs → x ≡ get_or xs i x → f x ≡ get_or (map f xs) i none
  seen_read i x none lt read = ap f read ∙ sym (get_or-map f xs i x none lt)

  -- one is put in place of another; past the last there is none
  pub seen_set : (i : ℕ) (after : A) (y : B) → f after ≡ y → map f (set xs i after) ≡ set (map f xs) i y
  seen_set i after y is = map-set f xs i after ∙ ap (set (map f xs) i) is

  past : (i : ℕ) (after : A) (y : B) → length xs ≤ i → map f (set xs i after) ≡ set (map f xs) i y
  past i after y le = ap (map f) (set_past xs i after le) ∙ sym (set_past (map f xs) i y (omega (arith, le, length-map xs f)))

  pub seen_changed : (none : B) (change : B → B) (i j : ℕ) (x after : A) → i ≡ j → x ≡ get_or xs i x → f after ≡ change (f x) → map f (set xs i after) ≡ set (map f xs) j (change (get_or (map f xs) j none))
  seen_changed none change i j x after same read is =
      elim (cases_lt i (length xs)) [
        | inl lt ↦ seen_set i after (change (get_or (map f xs) i none)) (is ∙ ap change (seen_read i x none lt read))
        | inr le ↦ past i after (change (get_or (map f xs) i none)) le
      ]
      ∙ ap (λ n. set (map f xs) n (change (get_or (map f xs) n none))) same

  -- one was put back as it was
  pub seen_kept : (i : ℕ) (x after : A) → x ≡ get_or xs i x → f after ≡ f x → map f (set xs i after) ≡ map f xs
  seen_kept i x after read is = map-set_same f xs i after x (is ∙ ap f read)
