-- The work that is done next.
use Rattle.std.proofs.Common.{◌≡◌, ℕ, ◌<◌, true, false, List, [], ◌∷◌, length, Option, Some, None, inl, inr, refl, sym, ap, ◌∙◌, true≢false, arith}
use Rattle.std.specs.Prelude.{◌==◌, position}
use Rattle.std.proofs.lemmas.Bool.Decides.{eqb_tells}
use Rattle.std.proofs.lemmas.List.Quantifiers.{position-Some}
use Rattle.sq_exec.specs.Work.{WorkValue, is_reactive_work, or_front, next_work, no_work}

-- the first reactive work is done next
pub front_found : (work : List WorkValue) (place : ℕ) → Some place ≡ position is_reactive_work work → Some place ≡ next_work work
front_found work place found = ap (or_front work) found

-- where there is none, the first
pub front_first : (work : List WorkValue) → None ≡ position is_reactive_work work → (length work == 0) ≡ false → Some 0 ≡ next_work work
front_first [] found some = cc
front_first (first ∷ rest) found some = ap (or_front (first ∷ rest)) found

pub front_none : (work : List WorkValue) → None ≡ position is_reactive_work work → (length work == 0) ≡ true → None ≡ next_work work
front_none [] found none = ap (or_front []) found
front_none (first ∷ rest) found none =
    elim (eqb_tells (length (first ∷ rest)) 0) [ inl both ↦ absurd (omega (arith, both.1)) | inr other ↦ absurd (true≢false (sym none ∙ other.0)) ]

within_by : (work : List WorkValue) (found : Option ℕ) (place : ℕ) → ((i : ℕ) → found ≡ Some i → i < length work) → or_front work found ≡ Some place → place < length work
within_by work (Some i) place low is = let same : i ≡ place = cc in omega (arith, low i refl)
within_by [] None place low is = cc
within_by (first ∷ rest) None place low is = let same : 0 ≡ place = cc in omega arith

-- it is among the work
pub next_within : (work : List WorkValue) (place : ℕ) → next_work work ≡ Some place → place < length work
next_within work place is = within_by work (position is_reactive_work work) place (λ i at. (position-Some is_reactive_work work i no_work at).0) is
