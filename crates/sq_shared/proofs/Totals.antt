-- A number for each view, added up, where one view changes.
use Rattle.std.proofs.Common.{◌≡◌, ◌≢◌, ℕ, zero, suc, ◌+◌, ◌≤◌, List, [], ◌∷◌, ◌++◌, set, refl, sym, ap, arith}
use mathlib.Core.Option.{some, some-injective, some-ne-none}
use lib.ListN.{get_elem?}
use Rattle.sq_shared.specs.declared.view.View.{View}
use Rattle.sq_shared.specs.View.{total}

pub total_set : (f : View → ℕ) (views : List View) (seat : ℕ) (v w : View) → get_elem? views seat ≡ some v → total f (set views seat w) + f v ≡ total f views + f w
total_set f [] seat v w at = absurd (some-ne-none v (sym at))
total_set f (u ∷ us) zero v w at = let same : f u ≡ f v = ap f (some-injective u v at) in omega arith
total_set f (u ∷ us) (suc seat) v w at = let rest = total_set f us seat v w at in omega arith

pub total_snoc : (f : View → ℕ) (views : List View) (w : View) → total f (views ++ w ∷ []) ≡ total f views + f w
total_snoc f [] w = omega arith
total_snoc f (u ∷ us) w = let rest = total_snoc f us w in omega arith

-- a seat's own number is part of the total
pub own_le_total : (f : View → ℕ) (views : List View) (seat : ℕ) (v : View) → get_elem? views seat ≡ some v → f v ≤ total f views
own_le_total f [] seat v at = absurd (some-ne-none v (sym at))
own_le_total f (u ∷ us) zero v at = let same : f u ≡ f v = ap f (some-injective u v at) in omega arith
own_le_total f (u ∷ us) (suc seat) v at = let rest = own_le_total f us seat v at in omega arith

-- so are the numbers of two seats
pub two_le_total : (f : View → ℕ) (views : List View) (seat other : ℕ) (v u : View) → get_elem? views seat ≡ some v → get_elem? views other ≡ some u → other ≢ seat → f v + f u ≤ total f views
two_le_total f [] seat other v u at at' apart = absurd (some-ne-none v (sym at))
two_le_total f (x ∷ xs) zero zero v u at at' apart = absurd (apart refl)
two_le_total f (x ∷ xs) zero (suc other) v u at at' apart =
    let same : f x ≡ f v = ap f (some-injective x v at) in let rest = own_le_total f xs other u at' in omega arith
two_le_total f (x ∷ xs) (suc seat) zero v u at at' apart =
    let same : f x ≡ f u = ap f (some-injective x u at') in let rest = own_le_total f xs seat v at in omega arith
two_le_total f (x ∷ xs) (suc seat) (suc other) v u at at' apart =
    let rest = two_le_total f xs seat other v u at at' (λ e. apart (ap suc e)) in omega arith

none_total : (f : View → ℕ) (views : List View) → ((other : ℕ) (u : View) → get_elem? views other ≡ some u → f u ≡ 0) → total f views ≡ 0
none_total f [] none = refl
none_total f (u ∷ us) none = let here = none 0 u refl in let rest = none_total f us (λ other x at. none (suc other) x at) in omega arith

-- where all others have the number 0 the total is the seat's own
pub only_total : (f : View → ℕ) (views : List View) (seat : ℕ) (v : View) → get_elem? views seat ≡ some v
    → ((other : ℕ) (u : View) → other ≢ seat → get_elem? views other ≡ some u → f u ≡ 0) → total f views ≡ f v
only_total f [] seat v at none = absurd (some-ne-none v (sym at))
only_total f (u ∷ us) zero v at none =
    let same : f u ≡ f v = ap f (some-injective u v at) in
    let rest = none_total f us (λ other x at'. none (suc other) x (λ e. omega arith) at') in
    omega arith
only_total f (u ∷ us) (suc seat) v at none =
    let here = none 0 u (λ e. omega arith) refl in
    let rest = only_total f us seat v at (λ other x apart at'. none (suc other) x (λ e. apart (omega arith)) at') in
    omega arith
