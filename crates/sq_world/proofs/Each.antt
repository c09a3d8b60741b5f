-- Lists whose elements are changed one after another.
use Rattle.std.proofs.Common.{◌≡◌, ℕ, zero, suc, ◌<◌, List, [], ◌∷◌, ◌++◌, map, take, drop, length, get_or, set, refl, ap, arith}

module _ {A : Type 0} (change : A → A) where
  -- the first i are changed
  abbrev pub changed : ℕ → List A → List A
  changed i xs = map change (take i xs) ++ drop i xs

  pub changed_next : (i : ℕ) (xs : List A) (none : A) → i < length xs → set (changed i xs) i (change (get_or (changed i xs) i none)) ≡ changed (suc i) xs
  changed_next i [] none lt = absurd (omega arith)
  changed_next zero (x ∷ xs) none lt = refl
  changed_next (suc i) (x ∷ xs) none lt = ap (λ (rest : List A). change x ∷ rest) (changed_next i xs none (omega arith))
