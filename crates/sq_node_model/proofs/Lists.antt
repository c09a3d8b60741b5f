-- Lists that are made of others: what is at their places, and what they contain.
use Rattle.std.proofs.Common.{◌≡◌, ◌⊎◌, inl, inr, ℕ, zero, suc, ◌+◌, ◌-◌, ◌<◌, Bool, true, List, [], ◌∷◌, ◌++◌, map, length, get_or, slice_get, Contains, find, Option, Some, None, refl, sym, ap, ◌∙◌, subst, true≢false, arith}
use Rattle.std.specs.Prelude.{reverse, option_map}
use Rattle.std.specs.List.{flat_map}
use Rattle.std.proofs.lemmas.Option.{same_Some, slice_get-map, slice_get_within, slice_get-get_or, get_or_from_slice_get}
use Rattle.std.proofs.lemmas.List.{length-reverse, get_or-reverse}
use Rattle.std.proofs.lemmas.List.Elements.{Contains-append_left, Contains-append_right}
use Rattle.sq_model.proofs.Lists.{Contains-nothing, Contains-cases, found_in, not_found}

pub Contains-flat_map : {X Y : Type 0} (f : X → List Y) (xs : List X) (x : X) (y : Y) → Contains xs x → Contains (f x) y → Contains (flat_map f xs) y
Contains-flat_map f [] x y has there = absurd (Contains-nothing x has)
Contains-flat_map f (z ∷ xs) x y has there =
    elim (Contains-cases z xs x has) [
      | inl same ↦ Contains-append_left (f z) (flat_map f xs) y (subst (λ w. Contains (f w) y) (sym same) there)
      | inr later ↦ Contains-append_right (f z) (flat_map f xs) y (Contains-flat_map f xs x y later there)
    ]

-- what is at a place of a mapped list comes from what was there
pub map_at : {X Y : Type 0} (f : X → Y) (xs : List X) (k : ℕ) (y : Y) → slice_get (map f xs) k ≡ Some y → (x : X) × (slice_get xs k ≡ Some x) × (f x ≡ y)
map_at f [] k y at = absurd cc
map_at f (x ∷ xs) zero y at = (x, refl, same_Some (f x) y at)
map_at f (x ∷ xs) (suc k) y at = map_at f xs k y at

pub at_map : {X Y : Type 0} (f : X → Y) (xs : List X) (k : ℕ) (x : X) → slice_get xs k ≡ Some x → slice_get (map f xs) k ≡ Some (f x)
at_map f xs k x at = slice_get-map f xs k ∙ ap (option_map f) at

-- each place within a list has something
pub stands_at : {X : Type 0} (xs : List X) (k : ℕ) → k < length xs → (x : X) × (slice_get xs k ≡ Some x)
stands_at [] k below = absurd (omega (arith, below))
stands_at (x ∷ xs) zero below = (x, refl)
stands_at (x ∷ xs) (suc k) below = stands_at xs k (omega (arith, below))

-- what is in one of two lists that are joined
pub append_at : {X : Type 0} (xs ys : List X) (k : ℕ) (x : X) → slice_get (xs ++ ys) k ≡ Some x → (slice_get xs k ≡ Some x) ⊎ ((j : ℕ) × (slice_get ys j ≡ Some x))
append_at [] ys k x at = inr (k, at)
append_at (z ∷ xs) ys zero x at = inl at
append_at (z ∷ xs) ys (suc k) x at = append_at xs ys k x at

pub after_append : {X : Type 0} (xs ys : List X) (j : ℕ) (x : X) → slice_get ys j ≡ Some x → slice_get (xs ++ ys) (length xs + j) ≡ Some x
after_append [] ys j x at = subst (λ k. slice_get ys k ≡ Some x) (let e : j ≡ 0 + j = omega arith in e) at
after_append (z ∷ xs) ys j x at =
    subst (λ k. slice_get (z ∷ xs ++ ys) k ≡ Some x) (let e : suc (length xs + j) ≡ suc (length xs) + j = omega arith in e) (after_append xs ys j x at)

pub at_reverse : {X : Type 0} (xs : List X) (k : ℕ) (x : X) → slice_get xs k ≡ Some x → slice_get (reverse xs) (length xs - 1 - k) ≡ Some x
at_reverse xs k x at =
    let within = slice_get_within xs k x at in
    let same = length-reverse xs in
    let turned : length xs - 1 - (length xs - 1 - k) ≡ k = omega (arith, within) in
    slice_get-get_or (reverse xs) (length xs - 1 - k) x (omega (arith, within, same))
    ∙ ap Some (get_or-reverse xs (length xs - 1 - k) x (omega (arith, within)) ∙ ap (λ j. get_or xs j x) turned ∙ get_or_from_slice_get xs k x x at)

-- places that are as far from a list's end are one
pub same_from_end : (n a b : ℕ) → a < n → b < n → n - 1 - a ≡ n - 1 - b → a ≡ b
same_from_end n a b low high same = omega (arith, low, high, same)

-- what is found that passes a test, where something does
pub record IsFound {X : Type 0} (p : X → Bool) (xs : List X) : Type 0 where
  pub one : X
  pub found : find p xs ≡ Some one
  pub among : Contains xs one
  pub passes : p one ≡ true

pub some_found : {X : Type 0} (p : X → Bool) (xs : List X) (x : X) → Contains xs x → p x ≡ true → IsFound p xs
some_found {X} p xs x has passes = here (find p xs) refl
  where
    here : (at : Option X) → find p xs ≡ at → IsFound p xs
    here None none = absurd (true≢false (sym passes ∙ not_found p xs none x has))
    here (Some one) found = let is = found_in p xs one found in record { one = one; found = found; among = is.0; passes = is.1 }

-- and nothing is found where nothing does
pub none_found : {X : Type 0} (p : X → Bool) (xs : List X) → ((x : X) → Contains xs x → p x ≡ true → ⊥) → find p xs ≡ None
none_found {X} p xs none = here (find p xs) refl
  where
    here : (at : Option X) → find p xs ≡ at → find p xs ≡ None
    here None e = e
    here (Some one) found = let is = found_in p xs one found in absurd (none one is.0 is.1)
