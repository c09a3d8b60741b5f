-- Members of lists that are reversed, mapped, or changed at one place.
use Rattle.std.proofs.Common.{◌≡◌, ◌⊎◌, inl, inr, ℕ, zero, suc, ◌-◌, List, [], ◌∷◌, ◌++◌, map, remove, length, get_or, slice_get, Contains, Some, refl, ap, ◌∙◌, subst, arith}
use Rattle.std.specs.Prelude.{◌≢◌, reverse, slice_set}
use Rattle.std.proofs.Math.ListN.{get_or-map}
use Rattle.std.proofs.lemmas.List.{reverse-reverse, length-reverse, get_or-reverse, length-map}
use Rattle.std.proofs.lemmas.Option.{same_Some}
use Rattle.sq_model.proofs.Lists.{Contains-slice_get, Contains-first, Contains-later}

pub Contains-reverse : {X : Type 0} (xs : List X) (x : X) → Contains xs x → Contains (reverse xs) x
Contains-reverse xs x has =
    let within = has.1 in
    let turned : length xs - 1 - (length xs - 1 - has.0) ≡ has.0 = omega arith in (
      length xs - 1 - has.0,
      omega (arith, length-reverse xs),
      get_or-reverse xs (length xs - 1 - has.0) x (omega arith) ∙ ap (λ k. get_or xs k x) turned ∙ has.2,
    )

pub Contains-unreversed : {X : Type 0} (xs : List X) (x : X) → Contains (reverse xs) x → Contains xs x
Contains-unreversed {X} xs x has = subst (λ (list : List X). Contains list x) (reverse-reverse xs) (Contains-reverse (reverse xs) x has)

pub Contains-map : {X Y : Type 0} (f : X → Y) (xs : List X) (x : X) → Contains xs x → Contains (map f xs) (f x)
Contains-map f xs x has = (has.0, omega (arith, has.1, length-map xs f), get_or-map f xs has.0 x ∙ ap f has.2)

-- where the element at a place was before that at another place was removed
skip : ℕ → ℕ → ℕ
skip zero j = suc j
skip (suc i) zero = zero
skip (suc i) (suc j) = suc (skip i j)

skip_apart : (i j : ℕ) → skip i j ≢ i
unfolding skip
skip_apart zero j = λ e. omega (arith, e)
skip_apart (suc i) zero = λ e. omega (arith, e)
skip_apart (suc i) (suc j) = λ e. skip_apart i j (omega (arith, e))

skip_once : (i j k : ℕ) → skip i j ≡ skip i k → j ≡ k
unfolding skip
skip_once zero j k e = omega (arith, e)
skip_once (suc i) zero zero e = refl
skip_once (suc i) zero (suc k) e = omega (arith, e)
skip_once (suc i) (suc j) zero e = omega (arith, e)
skip_once (suc i) (suc j) (suc k) e = ap suc (skip_once i j k (omega (arith, e)))

removed_from : {X : Type 0} (xs : List X) (i j : ℕ) (x : X) → slice_get (remove xs i) j ≡ Some x → slice_get xs (skip i j) ≡ Some x
unfolding skip
removed_from [] zero j x at = absurd cc
removed_from [] (suc i) j x at = absurd cc
removed_from (y ∷ xs) zero j x at = at
removed_from (y ∷ xs) (suc i) zero x at = at
removed_from (y ∷ xs) (suc i) (suc j) x at = removed_from xs i j x at

-- an element that was at another place than the removed one
pub record StoodAt {X : Type 0} (xs : List X) (i : ℕ) (x : X) : Type 0 where
  pub place : ℕ
  pub apart : place ≢ i
  pub there : slice_get xs place ≡ Some x

pub removed_stood : {X : Type 0} (xs : List X) (i j : ℕ) (x : X) → slice_get (remove xs i) j ≡ Some x → StoodAt xs i x
removed_stood xs i j x at = record { place = skip i j; apart = skip_apart i j; there = removed_from xs i j x at }

-- of what holds at different places
pub removed_once : {X : Type 0} (xs : List X) (P : X → X → Type 0) (i : ℕ)
    → ((j k : ℕ) (x y : X) → slice_get xs j ≡ Some x → slice_get xs k ≡ Some y → P x y → j ≡ k)
    → (j k : ℕ) (x y : X) → slice_get (remove xs i) j ≡ Some x → slice_get (remove xs i) k ≡ Some y → P x y → j ≡ k
removed_once xs P i once j k x y at there holds =
    skip_once i j k (once (skip i j) (skip i k) x y (removed_from xs i j x at) (removed_from xs i k y there) holds)

pub removed_kept : {X : Type 0} (xs : List X) (i j : ℕ) (x : X) → slice_get xs j ≡ Some x → j ≢ i → Contains (remove xs i) x
removed_kept [] i j x at apart = absurd cc
removed_kept (y ∷ xs) zero zero x at apart = absurd (apart refl)
removed_kept (y ∷ xs) zero (suc j) x at apart = Contains-slice_get xs j x at
removed_kept (y ∷ xs) (suc i) zero x at apart = subst (λ z. Contains (y ∷ remove xs i) z) (same_Some y x at) (Contains-first y (remove xs i))
removed_kept (y ∷ xs) (suc i) (suc j) x at apart = Contains-later y (remove xs i) x (removed_kept xs i j x at (λ e. apart (ap suc e)))

pub set_stood : {X : Type 0} (xs : List X) (i j : ℕ) (v x : X) → slice_get (slice_set xs i v) j ≡ Some x → ((j ≡ i) × (v ≡ x)) ⊎ ((j ≢ i) × (slice_get xs j ≡ Some x))
set_stood [] i j v x at = absurd cc
set_stood (y ∷ xs) zero zero v x at = inl (refl, same_Some v x at)
set_stood (y ∷ xs) zero (suc j) v x at = inr (λ e. omega (arith, e), at)
set_stood (y ∷ xs) (suc i) zero v x at = inr (λ e. omega (arith, e), at)
set_stood (y ∷ xs) (suc i) (suc j) v x at =
    elim (set_stood xs i j v x at) [
      | inl here ↦ inl (ap suc here.0, here.1)
      | inr stood ↦ let apart = stood.0 in inr (λ e. apart (omega (arith, e)), stood.1)
    ]

pub set_kept : {X : Type 0} (xs : List X) (i j : ℕ) (v x : X) → slice_get xs j ≡ Some x → j ≢ i → slice_get (slice_set xs i v) j ≡ Some x
set_kept [] i j v x at apart = absurd cc
set_kept (y ∷ xs) zero zero v x at apart = absurd (apart refl)
set_kept (y ∷ xs) zero (suc j) v x at apart = at
set_kept (y ∷ xs) (suc i) zero v x at apart = at
set_kept (y ∷ xs) (suc i) (suc j) v x at apart = set_kept xs i j v x at (λ e. apart (ap suc e))

pub set_new : {X : Type 0} (xs : List X) (i : ℕ) (v x : X) → slice_get xs i ≡ Some x → slice_get (slice_set xs i v) i ≡ Some v
set_new [] i v x at = absurd cc
set_new (y ∷ xs) zero v x at = refl
set_new (y ∷ xs) (suc i) v x at = set_new xs i v x at

pub slice_get-front : {X : Type 0} (xs ys : List X) (i : ℕ) (x : X) → slice_get xs i ≡ Some x → slice_get (xs ++ ys) i ≡ Some x
slice_get-front [] ys i x at = absurd cc
slice_get-front (y ∷ xs) ys zero x at = at
slice_get-front (y ∷ xs) ys (suc i) x at = slice_get-front xs ys i x at

pub slice_get-pushed : {X : Type 0} (xs : List X) (x : X) → slice_get (xs ++ x ∷ []) (length xs) ≡ Some x
slice_get-pushed [] x = refl
slice_get-pushed (y ∷ xs) x = slice_get-pushed xs x

pub push_stood : {X : Type 0} (xs : List X) (x : X) (i : ℕ) (y : X) → slice_get (xs ++ x ∷ []) i ≡ Some y → (slice_get xs i ≡ Some y) ⊎ ((i ≡ length xs) × (x ≡ y))
push_stood [] x zero y at = inr (refl, same_Some x y at)
push_stood [] x (suc i) y at = absurd cc
push_stood (z ∷ xs) x zero y at = inl at
push_stood (z ∷ xs) x (suc i) y at =
    elim (push_stood xs x i y at) [
      | inl there ↦ inl there
      | inr new ↦ inr (ap suc new.0, new.1)
    ]
