-- Lists: what they contain, what is found in them and what a filter keeps of them.
use Rattle.std.proofs.Common.{◌≡◌, ◌⊎◌, inl, inr, ℕ, zero, suc, ◌+◌, ◌<◌, ◌≤◌, Bool, true, false, ◌||◌, if◌then◌else◌, List, [], ◌∷◌, map, remove, length, get_or, slice_get, find, filter, Contains, Option, Some, None, refl, sym, ap, ◌∙◌, subst, true≢false, arith}
use Rattle.std.specs.List.{list_any, list_all, flat_map, range_with_len}
use Rattle.std.proofs.lemmas.Bool.{cases_Bool, cases_eq, and_parts, cond-true, cond-false, or_left, or_right, or_cases, false_from_ne_true, or_parts}
use Rattle.std.proofs.lemmas.List.Elements.{Contains-append_cases}
use Rattle.std.proofs.lemmas.List.Folds.{Any-from_list_any}
use Rattle.std.proofs.lemmas.Option.{slice_get-get_or}

-- what a list contains

pub Contains-first : {X : Type 0} (x : X) (xs : List X) → Contains (x ∷ xs) x
Contains-first x xs = (0, omega arith, refl)

pub Contains-later : {X : Type 0} (y : X) (xs : List X) (x : X) → Contains xs x → Contains (y ∷ xs) x
Contains-later y xs x has = (suc has.0, omega (arith, has.1), has.2)

pub Contains-cases : {X : Type 0} (y : X) (xs : List X) (x : X) → Contains (y ∷ xs) x → (y ≡ x) ⊎ Contains xs x
Contains-cases y xs x has = go has.0 has.1 has.2
  where
    go : (k : ℕ) → k < suc (length xs) → get_or (y ∷ xs) k x ≡ x → (y ≡ x) ⊎ Contains xs x
    go zero within at = inl at
    go (suc k) within at = inr (k, omega arith, at)

pub Contains-nothing : {X : Type 0} (x : X) → Contains [] x → ⊥
Contains-nothing x has = omega (arith, has.1)

pub Contains-slice_get : {X : Type 0} (xs : List X) (i : ℕ) (x : X) → slice_get xs i ≡ Some x → Contains xs x
Contains-slice_get [] i x at = absurd cc
Contains-slice_get (y ∷ xs) zero x at = (0, omega arith, cc)
Contains-slice_get (y ∷ xs) (suc i) x at = Contains-later y xs x (Contains-slice_get xs i x at)

pub slice_get-Contains : {X : Type 0} (xs : List X) (x : X) (has : Contains xs x) → slice_get xs has.0 ≡ Some x
slice_get-Contains xs x has = slice_get-get_or xs has.0 x has.1 ∙ ap Some has.2

-- what is found

pub found_in : {X : Type 0} (p : X → Bool) (xs : List X) (x : X) → find p xs ≡ Some x → Contains xs x × (p x ≡ true)
found_in p [] x found = absurd cc
found_in p (y ∷ xs) x found =
    elim (cases_Bool (p y)) [
      | inl passes ↦
          let same : y ≡ x = let e = sym (cond-true (p y) (Some y) (find p xs) passes) ∙ found in cc in
          (subst (Contains (y ∷ xs)) same (Contains-first y xs), ap p (sym same) ∙ passes)
      | inr fails ↦
          let rest = found_in p xs x (sym (cond-false (p y) (Some y) (find p xs) fails) ∙ found) in
          (Contains-later y xs x rest.0, rest.1)
    ]

-- what isn't found isn't there
pub not_found : {X : Type 0} (p : X → Bool) (xs : List X) → find p xs ≡ None → (x : X) → Contains xs x → p x ≡ false
not_found p [] none x has = absurd (Contains-nothing x has)
not_found p (y ∷ xs) none x has =
    elim (cases_Bool (p y)) [
      | inl passes ↦ absurd (let e = sym (cond-true (p y) (Some y) (find p xs) passes) ∙ none in cc)
      | inr fails ↦
          elim (Contains-cases y xs x has) [
            | inl same ↦ ap p (sym same) ∙ fails
            | inr later ↦ not_found p xs (sym (cond-false (p y) (Some y) (find p xs) fails) ∙ none) x later
          ]
    ]

pub any_in : {X : Type 0} (p : X → Bool) (xs : List X) → list_any p xs ≡ true → (x : X) × Contains xs x × (p x ≡ true)
any_in p xs any = let at = Any-from_list_any p xs any in (at.1, (at.0, at.2, at.3), at.4)

pub list_any-Contains : {X : Type 0} (p : X → Bool) (xs : List X) (x : X) → Contains xs x → p x ≡ true → list_any p xs ≡ true
list_any-Contains p [] x has passes = absurd (Contains-nothing x has)
list_any-Contains p (y ∷ xs) x has passes =
    elim (Contains-cases y xs x has) [
      | inl same ↦ or_left (p y) (list_any p xs) (ap p same ∙ passes)
      | inr later ↦ or_right (p y) (list_any p xs) (list_any-Contains p xs x later passes)
    ]

-- what passes a test in a list without one of its elements, passes it in the list
pub list_any-remove : {X : Type 0} (p : X → Bool) (xs : List X) (i : ℕ) → list_any p (remove xs i) ≡ true → list_any p xs ≡ true
list_any-remove p [] zero any = any
list_any-remove p [] (suc i) any = any
list_any-remove p (x ∷ xs) zero any = or_right (p x) (list_any p xs) any
list_any-remove p (x ∷ xs) (suc i) any =
    elim (or_cases (p x) (list_any p (remove xs i)) any) [
      | inl here ↦ or_left (p x) (list_any p xs) here
      | inr later ↦ or_right (p x) (list_any p xs) (list_any-remove p xs i later)
    ]

-- a test that no element passes finds none
pub nothing_found : {X : Type 0} (p : X → Bool) (xs : List X) → list_any p xs ≡ false → find p xs ≡ None
nothing_found {X = X} p xs none = among (find p xs) refl
  where
    among : (found : Option X) → find p xs ≡ found → find p xs ≡ None
    among None e = e
    among (Some x) e = let at = found_in p xs x e in absurd (true≢false (sym (list_any-Contains p xs x at.0 at.1) ∙ none))

-- what a filter keeps

pub filter-first : {X : Type 0} (p : X → Bool) (x : X) (xs : List X) → p x ≡ true → filter p (x ∷ xs) ≡ x ∷ filter p xs
filter-first p x xs passes = cond-true (p x) (x ∷ filter p xs) (filter p xs) passes

pub filter-other : {X : Type 0} (p : X → Bool) (x : X) (xs : List X) → p x ≡ false → filter p (x ∷ xs) ≡ filter p xs
filter-other p x xs fails = cond-false (p x) (x ∷ filter p xs) (filter p xs) fails

-- a test that no element passes keeps none
pub nothing_kept : {X : Type 0} (p : X → Bool) (xs : List X) → list_any p xs ≡ false → filter p xs ≡ []
nothing_kept p [] none = refl
nothing_kept p (x ∷ xs) none = let parts = or_parts (p x) (list_any p xs) none in filter-other p x xs parts.0 ∙ nothing_kept p xs parts.1

pub Contains-filter : {X : Type 0} (p : X → Bool) (xs : List X) (x : X) → Contains xs x → p x ≡ true → Contains (filter p xs) x
Contains-filter p [] x has passes = has
Contains-filter p (y ∷ xs) x has passes =
    elim (Contains-cases y xs x has) [
      | inl same ↦ subst (λ ys. Contains ys x) (sym (filter-first p y xs (ap p same ∙ passes))) (subst (Contains (y ∷ filter p xs)) same (Contains-first y (filter p xs)))
      | inr later ↦
          let kept = Contains-filter p xs x later passes in
          elim (cases_Bool (p y)) [
            | inl first ↦ subst (λ ys. Contains ys x) (sym (filter-first p y xs first)) (Contains-later y (filter p xs) x kept)
            | inr other ↦ subst (λ ys. Contains ys x) (sym (filter-other p y xs other)) kept
          ]
    ]

pub kept_in : {X : Type 0} (p : X → Bool) (xs : List X) (x : X) → Contains (filter p xs) x → Contains xs x × (p x ≡ true)
kept_in p [] x has = absurd (Contains-nothing x has)
kept_in p (y ∷ xs) x has =
    elim (cases_Bool (p y)) [
      | inl passes ↦
          elim (Contains-cases y (filter p xs) x (subst (λ ys. Contains ys x) (filter-first p y xs passes) has)) [
            | inl same ↦ (subst (Contains (y ∷ xs)) same (Contains-first y xs), ap p (sym same) ∙ passes)
            | inr later ↦ let rest = kept_in p xs x later in (Contains-later y xs x rest.0, rest.1)
          ]
      | inr fails ↦
          let rest = kept_in p xs x (subst (λ ys. Contains ys x) (filter-other p y xs fails) has) in
          (Contains-later y xs x rest.0, rest.1)
    ]

-- what is looked for passes the filter

pub find-filter : {X : Type 0} (p q : X → Bool) (xs : List X) → ((x : X) → Contains xs x → p x ≡ true → q x ≡ true) → find p (filter q xs) ≡ find p xs
find-filter p q [] passes = refl
find-filter p q (x ∷ xs) passes =
    let rest = find-filter p q xs (λ y has. passes y (Contains-later x xs y has)) in
    elim (cases_Bool (q x)) [
      | inl first ↦ ap (find p) (filter-first q x xs first) ∙ ap (λ found. if p x then Some x else found) rest
      | inr other ↦
          ap (find p) (filter-other q x xs other) ∙ rest
          ∙ sym (cond-false (p x) (Some x) (find p xs) (false_from_ne_true (p x) (λ wanted. true≢false (sym (passes x (Contains-first x xs) wanted) ∙ other))))
    ]

pub list_any-filter : {X : Type 0} (p q : X → Bool) (xs : List X) → ((x : X) → Contains xs x → p x ≡ true → q x ≡ true) → list_any p (filter q xs) ≡ list_any p xs
list_any-filter p q [] passes = refl
list_any-filter p q (x ∷ xs) passes =
    let rest = list_any-filter p q xs (λ y has. passes y (Contains-later x xs y has)) in
    elim (cases_Bool (q x)) [
      | inl first ↦ ap (list_any p) (filter-first q x xs first) ∙ ap (λ b. p x || b) rest
      | inr other ↦
          ap (list_any p) (filter-other q x xs other) ∙ rest
          ∙ ap (λ b. b || list_any p xs) (sym (false_from_ne_true (p x) (λ wanted. true≢false (sym (passes x (Contains-first x xs) wanted) ∙ other))))
    ]

-- numbers in a row

pub row_bounds : (a n x : ℕ) → Contains (range_with_len a n) x → (a ≤ x) × (x < a + n)
row_bounds a zero x has = absurd (Contains-nothing x has)
row_bounds a (suc n) x has =
    elim (Contains-cases a (range_with_len (a + 1) n) x has) [
      | inl same ↦ (omega arith, omega arith)
      | inr later ↦ let rest = row_bounds (a + 1) n x later in (omega arith, omega arith)
    ]

pub row_has : (a n x : ℕ) → a ≤ x → x < a + n → Contains (range_with_len a n) x
row_has a zero x low high = absurd (omega arith)
row_has a (suc n) x low high =
    elim (cases_eq a x) [
      | inl same ↦ subst (Contains (a ∷ range_with_len (a + 1) n)) same (Contains-first a (range_with_len (a + 1) n))
      | inr other ↦ Contains-later a (range_with_len (a + 1) n) x (row_has (a + 1) n x (omega arith) (omega arith))
    ]

-- lists made of others

pub map_in : {X Y : Type 0} (f : X → Y) (xs : List X) (y : Y) → Contains (map f xs) y → (x : X) × Contains xs x × (f x ≡ y)
map_in f [] y has = absurd (Contains-nothing y has)
map_in f (x ∷ xs) y has =
    elim (Contains-cases (f x) (map f xs) y has) [
      | inl same ↦ (x, Contains-first x xs, same)
      | inr later ↦ let rest = map_in f xs y later in (rest.0, Contains-later x xs rest.0 rest.1, rest.2)
    ]

pub flat_map_in : {X Y : Type 0} (f : X → List Y) (xs : List X) (y : Y) → Contains (flat_map f xs) y → (x : X) × Contains xs x × Contains (f x) y
flat_map_in f [] y has = absurd (Contains-nothing y has)
flat_map_in f (x ∷ xs) y has =
    elim (Contains-append_cases (f x) (flat_map f xs) y has) [
      | inl here ↦ (x, Contains-first x xs, here)
      | inr later ↦ let rest = flat_map_in f xs y later in (rest.0, Contains-later x xs rest.0 rest.1, rest.2)
    ]

-- what passes a test of all

pub list_all-Contains : {X : Type 0} (p : X → Bool) (xs : List X) (x : X) → list_all p xs ≡ true → Contains xs x → p x ≡ true
list_all-Contains p [] x all has = absurd (Contains-nothing x has)
list_all-Contains p (y ∷ xs) x all has =
    let parts = and_parts (p y) (list_all p xs) all in
    elim (Contains-cases y xs x has) [
      | inl same ↦ ap p (sym same) ∙ parts.0
      | inr later ↦ list_all-Contains p xs x parts.1 later
    ]
