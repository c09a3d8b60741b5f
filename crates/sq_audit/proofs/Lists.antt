-- What is counted in a part of a list.
use Rattle.std.proofs.Common.{◌≡◌, inl, inr, ℕ, zero, suc, ◌+◌, ◌<◌, Bool, true, false, List, [], ◌∷◌, take, drop, slice_get, Some, refl, sym, ap, ◌∙◌, subst, arith}
use Rattle.std.specs.Prelude.{cond, count_by}
use Rattle.std.specs.List.Sorted.{IsPartitionedBy, IsPartitionPoint}
use Rattle.std.proofs.lemmas.Bool.{cases_Bool}
use Rattle.std.proofs.lemmas.List.{take-append-drop}
use Rattle.std.proofs.lemmas.List.Sums.{sum_by-append}

-- something counted is there
pub record IsCounted {X : Type 0} (p : X → Bool) (xs : List X) : Type 0 where
  pub place : ℕ
  pub one : X
  pub there : slice_get xs place ≡ Some one
  pub passes : p one ≡ true

pub counted : {X : Type 0} (p : X → Bool) (xs : List X) → 0 < count_by p xs → IsCounted p xs
counted p [] some = absurd (omega (arith, some))
counted p (x ∷ xs) some =
    elim (cases_Bool (p x)) [
      | inl passes ↦ record { place = 0; one = x; there = refl; passes = passes }
      | inr fails ↦
          let rest : count_by p (x ∷ xs) ≡ 0 + count_by p xs = sum_by-append (λ y. cond (p y) 1 0) (x ∷ []) xs ∙ ap (λ b. (0 + cond b 1 0) + count_by p xs) fails in
          let later = counted p xs (omega (arith, some, rest)) in
          record { place = suc later.place; one = later.one; there = later.there; passes = later.passes }
    ]

pub count_parts : {X : Type 0} (p : X → Bool) (xs : List X) (i : ℕ) → count_by p xs ≡ count_by p (take i xs) + count_by p (drop i xs)
count_parts p xs i = ap (count_by p) (sym (take-append-drop i xs)) ∙ sum_by-append (λ x. cond (p x) 1 0) (take i xs) (drop i xs)

-- what is in a part
pub record StoodBefore {X : Type 0} (xs : List X) (i k : ℕ) (x : X) : Type 0 where
  pub there : slice_get xs k ≡ Some x
  pub before : k < i

pub taken_at : {X : Type 0} (xs : List X) (i k : ℕ) (x : X) → slice_get (take i xs) k ≡ Some x → StoodBefore xs i k x
taken_at [] zero k x at = absurd cc
taken_at [] (suc i) k x at = absurd cc
taken_at (y ∷ xs) zero k x at = absurd cc
taken_at (y ∷ xs) (suc i) zero x at = record { there = at; before = omega arith }
taken_at (y ∷ xs) (suc i) (suc k) x at = let rest = taken_at xs i k x at in record { there = rest.there; before = (let low = rest.before in omega (arith, low)) }

pub dropped_at : {X : Type 0} (xs : List X) (i k : ℕ) (x : X) → slice_get (drop i xs) k ≡ Some x → slice_get xs (i + k) ≡ Some x
dropped_at [] zero k x at = absurd cc
dropped_at [] (suc i) k x at = absurd cc
dropped_at (y ∷ xs) zero k x at = subst (λ n. slice_get (y ∷ xs) n ≡ Some x) (let e : k ≡ zero + k = omega arith in e) at
dropped_at (y ∷ xs) (suc i) k x at = subst (λ n. slice_get (y ∷ xs) n ≡ Some x) (let e : suc (i + k) ≡ suc i + k = omega arith in e) (dropped_at xs i k x at)

pub nothing_there : {X : Type 0} (n : ℕ) (x : X) → slice_get [] n ≡ Some x → ⊥
nothing_there zero x at = cc
nothing_there (suc n) x at = cc

pub at_dropped : {X : Type 0} (xs : List X) (i k : ℕ) (x : X) → slice_get xs (i + k) ≡ Some x → slice_get (drop i xs) k ≡ Some x
at_dropped [] i k x at = absurd (nothing_there (i + k) x at)
at_dropped (y ∷ xs) zero k x at = subst (λ n. slice_get (y ∷ xs) n ≡ Some x) (let e : zero + k ≡ k = omega arith in e) at
at_dropped (y ∷ xs) (suc i) k x at = at_dropped xs i k x (subst (λ n. slice_get (y ∷ xs) n ≡ Some x) (let e : suc i + k ≡ suc (i + k) = omega arith in e) at)

-- where the elements that pass a test come before the others, they end at this place
abbrev pub PartsAt : {X : Type 0} → (X → Bool) → List X → ℕ → Type 0
PartsAt test xs count = IsPartitionedBy test xs → IsPartitionPoint (λ x. test x ≡ true) (λ x. test x ≡ false) xs count
