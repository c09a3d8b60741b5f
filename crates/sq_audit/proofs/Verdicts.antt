-- The first defect: its clause fails, and those of lower numbers hold.
use Rattle.std.proofs.Common.{◌≡◌, ⊎_elim, ℕ, zero, suc, ◌+◌, ◌<◌, ◌≤◌, Bool, true, false, List, [], ◌∷◌, get_or, refl, sym, subst, arith}
use Rattle.std.specs.Bool.{Decides}
use Rattle.std.proofs.lemmas.Bool.{cases_lt}
use Rattle.sq_gather.specs.Prelude.{OpeningValue, GatheredValue}
use Rattle.sq_audit.specs.declared.job.Job.{Job}
use Rattle.sq_audit.specs.declared.verdict.Defect.{Defect}
use Rattle.sq_audit.specs.declared.verdict.Defect.TheVariants.{RootMissing, RootDoubled, BaseChanged, WrongPlace, ReceiptUnknown, Unanswered}
use Rattle.sq_audit.specs.Sound.{IsSoundRun}
use Rattle.sq_audit.specs.Defects.{defect_number, Clears, ClearBelow, IsFirstDefect}
use Rattle.sq_audit.proofs.Defects.{number_one, sound_from}
use Rattle.sq_audit.proofs.Each.{refuted}

-- the lowest and the highest number
bounds : (defect : Defect) → (301 ≤ defect_number defect) × (defect_number defect < 307)
bounds RootMissing = (omega arith, omega arith)
bounds RootDoubled = (omega arith, omega arith)
bounds BaseChanged = (omega arith, omega arith)
bounds WrongPlace = (omega arith, omega arith)
bounds ReceiptUnknown = (omega arith, omega arith)
bounds Unanswered = (omega arith, omega arith)

-- the defect at a place of the order of their numbers
abbrev pub defect_at : ℕ → Defect
defect_at i = get_or (RootMissing ∷ RootDoubled ∷ BaseChanged ∷ WrongPlace ∷ ReceiptUnknown ∷ Unanswered ∷ []) i RootMissing

number_at : (i : ℕ) → i < 6 → defect_number (defect_at i) ≡ 301 + i
number_at zero low = refl
number_at (suc zero) low = refl
number_at (suc (suc zero)) low = refl
number_at (suc (suc (suc zero))) low = refl
number_at (suc (suc (suc (suc zero)))) low = refl
number_at (suc (suc (suc (suc (suc zero))))) low = refl
number_at (suc (suc (suc (suc (suc (suc i)))))) low = absurd (omega arith)

module _ (o : OpeningValue) (g : GatheredValue) (jobs : List Job) where
  pub none_below : ClearBelow o g jobs 301
  none_below other low = absurd (omega (arith, low, (bounds other).0))

  pub all_clear : ClearBelow o g jobs 307 → IsSoundRun o g jobs
  all_clear below = sound_from o g jobs (λ defect. below defect (bounds defect).1)

  -- what holds of the defect at a place where there is none before it
  module _ (i : ℕ) (low : i < 6) (below : ClearBelow o g jobs (301 + i)) where
    pub lower_clear : ClearBelow o g jobs (defect_number (defect_at i))
    lower_clear = subst (ClearBelow o g jobs) (sym (number_at i low)) below

    pub first_found : (b : Bool) → Decides b (Clears o g jobs (defect_at i)) → b ≡ false → IsFirstDefect o g jobs (defect_at i)
    first_found b decides fails = record { found = refuted b decides fails; first = lower_clear }

    pub next_below : (b : Bool) → Decides b (Clears o g jobs (defect_at i)) → b ≡ true → ClearBelow o g jobs (301 + (i + 1))
    next_below b decides passes other less =
        ⊎_elim
        (λ (before : defect_number other < 301 + i). below other before)
        (λ (upto : 301 + i ≤ defect_number other).
        let at = number_at i low in
        let same : defect_at i ≡ other = number_one (defect_at i) other (omega arith) in subst (Clears o g jobs) same (decides.0 passes))
        (cases_lt (defect_number other) (301 + i))
