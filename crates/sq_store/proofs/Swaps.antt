-- A run whose families are taken out, changed and put back.
use Rattle.std.proofs.Common.{◌≡◌, ℕ, zero, suc, List, [], ◌∷◌, length, get_or, set, refl, ap, ◌∙◌, arith, length-set}
use Rattle.std.specs.Prelude.{◌<◌}
use Rattle.sq_schema.specs.Family.{FamilyValue}
use Rattle.sq_store.specs.Run.{Run}
use Rattle.sq_store.specs.Runs.{nth_run, refilled}

set_again : (runs : List Run) (at : ℕ) (first second : List FamilyValue) → at < length runs
    → set (set runs at (refilled runs at first)) at (refilled (set runs at (refilled runs at first)) at second) ≡ set runs at (refilled runs at second)
set_again [] at first second inside = absurd (omega arith)
set_again (run ∷ runs) zero first second inside = refl
set_again (run ∷ runs) (suc at) first second inside = ap (λ (rs : List Run). run ∷ rs) (set_again runs at first second (omega arith))

-- the run has the new families
pub swapped : (runs between now : List Run) (at : ℕ) (first second : List FamilyValue) → at < length runs → between ≡ set runs at (refilled runs at first) → now ≡ set between at (refilled between at second)
    → now ≡ set runs at (refilled runs at second)
swapped runs between now at first second inside opened closed =
    closed ∙ ap (λ rs. set rs at (refilled rs at second)) opened ∙ set_again runs at first second inside

pub set_own : (runs : List Run) (at : ℕ) → at < length runs → set runs at (refilled runs at (nth_run runs at).families) ≡ runs
set_own [] at inside = absurd (omega arith)
set_own (run ∷ runs) zero inside = refl
set_own (run ∷ runs) (suc at) inside = ap (λ (rs : List Run). run ∷ rs) (set_own runs at (omega arith))

-- and where they are those that it had, all runs are as they were
pub restored : (runs between now : List Run) (at : ℕ) (first second : List FamilyValue) → at < length runs → between ≡ set runs at (refilled runs at first) → now ≡ set between at (refilled between at second)
    → second ≡ (nth_run runs at).families → now ≡ runs
restored runs between now at first second inside opened closed same =
    swapped runs between now at first second inside opened closed ∙ ap (λ fs. set runs at (refilled runs at fs)) same ∙ set_own runs at inside

pub still_inside : (runs between : List Run) (at : ℕ) (first : List FamilyValue) → at < length runs → between ≡ set runs at (refilled runs at first) → at < length between
still_inside runs between at first inside opened = omega (arith, ap length opened, length-set runs at (refilled runs at first), inside)

-- a run at a place
pub nth_of : (runs : List Run) (at : ℕ) → at < length runs → nth_run runs at ≡ get_or runs at (nth_run runs at)
nth_of [] at inside = absurd (omega arith)
nth_of (run ∷ runs) zero inside = refl
nth_of (run ∷ runs) (suc at) inside = nth_of runs at (omega arith)
