-- Elements of a list with one more at its end.
use Rattle.std.proofs.Common.{◌≡◌, ℕ, suc, List, [], ◌∷◌, ◌++◌, length, map, Some, refl, ap, arith}
use Rattle.std.specs.List.{flat_map}
use Rattle.std.specs.Prelude.{slice_get}

-- the first of the items that are left is behind those that were taken
pub stands_after : {X : Type 0} (xs : List X) (x : X) (rest left : List X) → left ≡ x ∷ rest → slice_get (xs ++ left) (length xs) ≡ Some x
stands_after {X} [] x rest left is = ap (λ (all : List X). slice_get all 0) is
stands_after (y ∷ xs) x rest left is = stands_after xs x rest left is

-- two lists with one more at their ends are the same only where the lists are, and what was added
pub push_same : {X : Type 0} (xs ys : List X) (x y : X) → xs ++ x ∷ [] ≡ ys ++ y ∷ [] → (xs ≡ ys) × (x ≡ y)
push_same [] [] x y is = (refl, cc)
push_same [] (z ∷ []) x y is = absurd cc
push_same [] (z ∷ w ∷ ys) x y is = absurd cc
push_same (z ∷ []) [] x y is = absurd cc
push_same (z ∷ w ∷ xs) [] x y is = absurd cc
push_same (z ∷ xs) (w ∷ ys) x y is =
    let rest = push_same xs ys x y cc in
    (let first : z ≡ w = cc in λ k. first k ∷ rest.0 k, rest.1)

pub empty : {X : Type 0} (xs : List X) → length xs ≡ 0 → xs ≡ []
empty [] is = refl
empty (x ∷ xs) is = absurd (omega arith)

pub map_twice : {X Y Z : Type 0} (f : Y → Z) (g : X → Y) (xs : List X) → map f (map g xs) ≡ map (λ x. f (g x)) xs
map_twice f g [] = refl
map_twice f g (x ∷ xs) = ap (λ rest. f (g x) ∷ rest) (map_twice f g xs)

-- two lists map to the same where each two elements at one place do
pub maps_same : {X Y Z : Type 0} (f : X → Z) (h : Y → Z) (xs : List X) (ys : List Y) → length xs ≡ length ys → ((i : ℕ) (x : X) (y : Y) → slice_get xs i ≡ Some x → slice_get ys i ≡ Some y → f x ≡ h y) → map f xs ≡ map h ys
maps_same f h [] [] count each = refl
maps_same f h [] (y ∷ ys) count each = absurd (omega (arith, count))
maps_same f h (x ∷ xs) [] count each = absurd (omega (arith, count))
maps_same f h (x ∷ xs) (y ∷ ys) count each =
    let first = each 0 x y refl refl in
    let rest = maps_same f h xs ys (omega (arith, count)) (λ i a b. each (suc i) a b) in
    λ k. first k ∷ rest k

-- a flat map over elements that each give nothing gives nothing
pub flat_map_none : {X Y : Type 0} (f : X → List Y) (xs : List X) → ((i : ℕ) (x : X) → slice_get xs i ≡ Some x → f x ≡ []) → flat_map f xs ≡ []
flat_map_none f [] none = refl
flat_map_none f (x ∷ xs) none = let first = none 0 x refl in let rest = flat_map_none f xs (λ i a. none (suc i) a) in (λ k. first k ++ rest k)
