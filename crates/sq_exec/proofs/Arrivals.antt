-- Lists of waiting transactions.
use Rattle.std.proofs.Common.{◌≡◌, ℕ, ◌+◌, ◌<◌, Bool, true, false, ◌||◌, List, [], ◌∷◌, ◌++◌, map, length, zero, suc, refl, sym, ap, ◌∙◌, arith}
use Rattle.std.specs.Prelude.{cond, ◌&&◌, find, slice_get, remove, is_some, IsSome, Some, option_map}
use Rattle.std.specs.Ordering.{nat_cmp}
use Rattle.std.specs.List.{list_any, list_all, AllByRecursion}
use Rattle.std.specs.List.Sorted.{IsStrictlySortedBy, IsStrictlyIncreasing}
use Rattle.std.specs.declared.cmp.Ordering.TheVariants.{Less}
use Rattle.std.proofs.lemmas.Bool.{eq-eqb, ne_eqb}
use Rattle.std.proofs.lemmas.Map.Keys.{sorted_head, sorted_tail, sorted_from_strictly_increasing}
use Rattle.sq_schema.specs.TxnValue.{TxnValue}
use Rattle.sq_exec.specs.Waiting.{Arrival, numbers_of, txns_of, txn_at, is_numbered, without, numbered_from, due_if}
use Rattle.sq_exec.proofs.Entries.{less_from_less}

pub find-map : {X Y : Type 0} (f : X → Y) (p : Y → Bool) (xs : List X) → find p (map f xs) ≡ option_map f (find (λ x. p (f x)) xs)
find-map f p [] = refl
find-map f p (x ∷ xs) =
    elim (p (f x)) as (λ b. cond b (Some (f x)) (find p (map f xs)) ≡ option_map f (cond b (Some x) (find (λ y. p (f y)) xs))) [
      | true ↦ refl
      | false ↦ find-map f p xs
    ]

pub any_found : {X : Type 0} (p : X → Bool) (xs : List X) → list_any p xs ≡ is_some (find p xs)
any_found p [] = refl
any_found p (x ∷ xs) = elim (p x) as (λ b. (b || list_any p xs) ≡ is_some (cond b (Some x) (find p xs))) [ true ↦ refl | false ↦ any_found p xs ]

pub numbered_from-append : (n : ℕ) (xs : List Arrival) (a : Arrival) → numbered_from n (xs ++ a ∷ []) ≡ numbered_from n xs ++ record a { number = n + length xs } ∷ []
numbered_from-append n [] a = let same : n ≡ n + 0 = omega arith in ap (λ k. record a { number = k } ∷ []) same
numbered_from-append n (x ∷ xs) a =
    let same : (n + 1) + length xs ≡ n + suc (length xs) = omega arith in
    ap (λ rest. record x { number = n } ∷ rest) (numbered_from-append (n + 1) xs a ∙ ap (λ k. numbered_from (n + 1) xs ++ record a { number = k } ∷ []) same)

-- where arrival numbers rise, the transaction at a place is the one of its number
pub record IsAt (arrivals : List Arrival) (number place : ℕ) : Type 0 where
  pub found : find (is_numbered number) arrivals ≡ slice_get arrivals place
  pub rest : without number arrivals ≡ remove arrivals place

later_than : (k : ℕ) (xs : List Arrival) (place number : ℕ) → AllByRecursion (λ n. nat_cmp k n ≡ Less) (numbers_of xs) → slice_get (numbers_of xs) place ≡ Some number → k < number
later_than k [] place number above at = cc
later_than k (x ∷ xs) zero number above at = let same : x.number ≡ number = cc in omega (arith, less_from_less k x.number above.0, same)
later_than k (x ∷ xs) (suc place) number above at = later_than k xs place number above.1 at

at_place : (xs : List Arrival) (place number : ℕ) → IsStrictlySortedBy nat_cmp (numbers_of xs) → slice_get (numbers_of xs) place ≡ Some number → IsAt xs number place
at_place [] place number sorted at = cc
at_place (x ∷ xs) zero number sorted at =
    let same : x.number ≡ number = cc in
    let here : is_numbered number x ≡ true = eq-eqb number x.number (sym same) in
    record { found = ap (λ b. cond b (Some x) (find (is_numbered number) xs)) here; rest = ap (λ b. cond b xs (x ∷ without number xs)) here }
at_place (x ∷ xs) (suc place) number sorted at =
    let later : x.number < number = later_than x.number xs place number (sorted_head nat_cmp x.number (numbers_of xs) sorted) at in
    let other : is_numbered number x ≡ false = ne_eqb number x.number (λ same. absurd (omega (arith, later, same))) in
    let after = at_place xs place number (sorted_tail nat_cmp x.number (numbers_of xs) sorted) at in
    record {
      found = ap (λ b. cond b (Some x) (find (is_numbered number) xs)) other ∙ after.found;
      rest = ap (λ b. cond b xs (x ∷ without number xs)) other ∙ ap (λ rest. x ∷ rest) after.rest;
    }

pub at_number : (xs : List Arrival) (place number : ℕ) → IsStrictlyIncreasing (numbers_of xs) → slice_get (numbers_of xs) place ≡ Some number → IsAt xs number place
at_number xs place number rises at = at_place xs place number (sorted_from_strictly_increasing (numbers_of xs) rises) at

-- a number that is among those has a transaction
pub is_there : (xs : List Arrival) (place number : ℕ) → slice_get (numbers_of xs) place ≡ Some number → IsSome (txn_at xs number)
is_there [] place number at = cc
is_there (x ∷ xs) zero number at =
    let same : x.number ≡ number = cc in
    ap (λ b. is_some (option_map (λ (a : Arrival). a.txn) (cond b (Some x) (find (is_numbered number) xs)))) (eq-eqb number x.number (sym same))
is_there (x ∷ xs) (suc place) number at =
    elim (is_numbered number x) as (λ b. is_some (option_map (λ (a : Arrival). a.txn) (cond b (Some x) (find (is_numbered number) xs))) ≡ true) [
      | true ↦ refl
      | false ↦ is_there xs place number at
    ]

-- numbered anew, they are the same transactions
pub txns-numbered_from : (n : ℕ) (xs : List Arrival) → txns_of (numbered_from n xs) ≡ txns_of xs
txns-numbered_from n [] = refl
txns-numbered_from n (x ∷ xs) = ap (λ rest. x.txn ∷ rest) (txns-numbered_from (n + 1) xs)

-- and pass what doesn't look at their numbers
pub all-numbered_from : (f : TxnValue → Bool → Bool) (n : ℕ) (xs : List Arrival) → list_all (λ a. f a.txn a.is_due) (numbered_from n xs) ≡ list_all (λ a. f a.txn a.is_due) xs
all-numbered_from f n [] = refl
all-numbered_from f n (x ∷ xs) = ap (λ b. f x.txn x.is_due && b) (all-numbered_from f (n + 1) xs)

-- those that are due too are the same transactions with the same numbers
pub txns-due : (passes : Arrival → Bool) (xs : List Arrival) → txns_of (map (due_if passes) xs) ≡ txns_of xs
txns-due passes [] = refl
txns-due passes (x ∷ xs) = ap (λ rest. x.txn ∷ rest) (txns-due passes xs)

pub numbers-due : (passes : Arrival → Bool) (xs : List Arrival) → numbers_of (map (due_if passes) xs) ≡ numbers_of xs
numbers-due passes [] = refl
numbers-due passes (x ∷ xs) = ap (λ rest. x.number ∷ rest) (numbers-due passes xs)
