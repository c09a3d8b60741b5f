-- How often the receipts of all nodes name a position, where those of one or two do.
use Rattle.std.proofs.Common.{◌≡◌, ℕ, zero, suc, ◌+◌, List, [], ◌∷◌, ◌++◌, slice_get, Some, refl, ap, arith}
use Rattle.std.specs.Prelude.{◌≢◌, if◌then◌else◌}
use Rattle.std.specs.List.{flat_map}
use Rattle.std.proofs.lemmas.Option.{same_Some}
use Rattle.std.proofs.lemmas.List.Sums.{sum_by-append}
use Rattle.sq_node_model.specs.NodeValue.{ReceiptValue}
use Rattle.sq_node_model.specs.Receipts.{names, times_named}

module _ {X : Type 0} (root position : ℕ) (f : X → List ReceiptValue) where
  pub named_both : (xs ys : List ReceiptValue) → times_named root position (xs ++ ys) ≡ times_named root position xs + times_named root position ys
  named_both xs ys = sum_by-append (λ receipt. if names root position receipt then 1 else 0) xs ys

  none_name : (xs : List X) → ((q : ℕ) (x : X) → slice_get xs q ≡ Some x → times_named root position (f x) ≡ 0) → times_named root position (flat_map f xs) ≡ 0
  none_name [] none = refl
  none_name (x ∷ xs) none =
      let here = none 0 x refl in
      let rest = none_name xs (λ q y at. none (suc q) y at) in
      let sum = named_both (f x) (flat_map f xs) in
      omega (arith, here, rest, sum)

  -- where the others name none, the one names all
  pub one_names : (xs : List X) (p : ℕ) (x : X) → slice_get xs p ≡ Some x → ((q : ℕ) (y : X) → slice_get xs q ≡ Some y → q ≢ p → times_named root position (f y) ≡ 0)
      → times_named root position (flat_map f xs) ≡ times_named root position (f x)
  one_names [] p x at none = absurd cc
  one_names (z ∷ xs) zero x at none =
      let same = ap (λ y. times_named root position (f y)) (same_Some z x at) in
      let rest = none_name xs (λ q y at'. none (suc q) y at' (λ e. omega (arith, e))) in
      let sum = named_both (f z) (flat_map f xs) in
      omega (arith, same, rest, sum)
  one_names (z ∷ xs) (suc p) x at none =
      let here = none 0 z refl (λ e. omega (arith, e)) in
      let rest = one_names xs p x at (λ q y at' apart. none (suc q) y at' (λ e. apart (omega (arith, e)))) in
      let sum = named_both (f z) (flat_map f xs) in
      omega (arith, here, rest, sum)

  -- so do two
  pub two_name : (xs : List X) (p q : ℕ) (x y : X) → slice_get xs p ≡ Some x → slice_get xs q ≡ Some y → p ≢ q
      → ((r : ℕ) (z : X) → slice_get xs r ≡ Some z → r ≢ p → r ≢ q → times_named root position (f z) ≡ 0)
      → times_named root position (flat_map f xs) ≡ times_named root position (f x) + times_named root position (f y)
  two_name [] p q x y at at' apart none = absurd cc
  two_name (z ∷ xs) zero zero x y at at' apart none = absurd (apart refl)
  two_name (z ∷ xs) zero (suc q) x y at at' apart none =
      let same = ap (λ w. times_named root position (f w)) (same_Some z x at) in
      let rest = one_names xs q y at' (λ r w there other. none (suc r) w there (λ e. omega (arith, e)) (λ e. other (omega (arith, e)))) in
      let sum = named_both (f z) (flat_map f xs) in
      omega (arith, same, rest, sum)
  two_name (z ∷ xs) (suc p) zero x y at at' apart none =
      let same = ap (λ w. times_named root position (f w)) (same_Some z y at') in
      let rest = one_names xs p x at (λ r w there other. none (suc r) w there (λ e. other (omega (arith, e))) (λ e. omega (arith, e))) in
      let sum = named_both (f z) (flat_map f xs) in
      omega (arith, same, rest, sum)
  two_name (z ∷ xs) (suc p) (suc q) x y at at' apart none =
      let here = none 0 z refl (λ e. omega (arith, e)) (λ e. omega (arith, e)) in
      let rest = two_name xs p q x y at at' (λ e. apart (ap suc e)) (λ r w there one other. none (suc r) w there (λ e. one (omega (arith, e))) (λ e. other (omega (arith, e)))) in
      let sum = named_both (f z) (flat_map f xs) in
      omega (arith, here, rest, sum)
