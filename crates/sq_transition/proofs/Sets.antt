-- A list with one element set.
use Rattle.std.proofs.Common.{⊎_elim, subst, ◌≡◌, ℕ, Bool, true, false, List, sym, length}
use Rattle.std.specs.Prelude.{◌<◌, ◌≢◌, ◌==◌, if◌then◌else◌, slice_set, slice_index_or}
use Rattle.std.proofs.lemmas.List.{get_or-set_same, get_or-set_other}
use Rattle.std.proofs.lemmas.Bool.Decides.{eqb_tells}

-- cases on whether two numbers are one
pub by_place : (a b : ℕ) (P : Bool → Type 0) → (a ≡ b → P true) → (a ≢ b → P false) → P (a == b)
by_place a b P same apart = ⊎_elim (λ e. subst P (sym e.0) (same e.1)) (λ e. subst P (sym e.0) (apart e.1)) (eqb_tells a b)

-- what is at a place
pub get_or-set : {X : Type 0} (xs : List X) (i j : ℕ) (x none : X) → i < length xs → slice_index_or (slice_set xs i x) j none ≡ (if i == j then x else slice_index_or xs j none)
get_or-set xs i j x none there =
    by_place i j (λ b. slice_index_or (slice_set xs i x) j none ≡ (if b then x else slice_index_or xs j none))
    (λ same. subst (λ k. slice_index_or (slice_set xs i x) k none ≡ x) same (get_or-set_same xs i x none there))
    (λ apart. get_or-set_other xs i j x none (λ e. apart (sym e)))

-- what is said of each place is said of the one that was set and of the others
pub each-set : {X : Type 0} (xs : List X) (i : ℕ) (x none : X) (P : ℕ → X → Type 0) → i < length xs → P i x → ((j : ℕ) → i ≢ j → P j (slice_index_or xs j none)) → (j : ℕ) → P j (slice_index_or (slice_set xs i x) j none)
each-set xs i x none P there mine others j =
    subst (P j) (sym (get_or-set xs i j x none there))
    (by_place i j (λ b. P j (if b then x else slice_index_or xs j none)) (λ same. subst (λ k. P k x) same mine) (λ apart. others j apart))
