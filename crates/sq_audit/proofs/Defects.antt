-- The six clauses together, and the one verdict.
use Rattle.std.proofs.Common.{◌≡◌, ⊎_elim, List, refl, ap, arith}
use Rattle.std.proofs.lemmas.Bool.{cases_lt}
use Rattle.sq_gather.specs.Prelude.{OpeningValue, GatheredValue}
use Rattle.sq_audit.specs.declared.job.Job.{Job}
use Rattle.sq_audit.specs.declared.verdict.Defect.{Defect}
use Rattle.sq_audit.specs.declared.verdict.Defect.TheVariants.{RootMissing, RootDoubled, BaseChanged, WrongPlace, ReceiptUnknown, Unanswered}
use Rattle.sq_audit.specs.declared.verdict.Verdict.{Verdict}
use Rattle.sq_audit.specs.declared.verdict.Verdict.TheVariants.{Sound, Unsound}
use Rattle.sq_audit.specs.Sound.{IsSoundRun}
use Rattle.sq_audit.specs.Defects.{defect_number, Clears, IsFirstDefect, IsVerdict}

-- defects with one number are one
pub number_one : (one other : Defect) → defect_number one ≡ defect_number other → one ≡ other
number_one RootMissing RootMissing same = refl
number_one RootDoubled RootDoubled same = refl
number_one BaseChanged BaseChanged same = refl
number_one WrongPlace WrongPlace same = refl
number_one ReceiptUnknown ReceiptUnknown same = refl
number_one Unanswered Unanswered same = refl
number_one _ _ same = absurd (omega (arith, same))

module _ (o : OpeningValue) (g : GatheredValue) (jobs : List Job) where
  pub each_clear : IsSoundRun o g jobs → (defect : Defect) → Clears o g jobs defect
  each_clear sound RootMissing = sound.opening
  each_clear sound RootDoubled = sound.once
  each_clear sound BaseChanged = sound.start
  each_clear sound WrongPlace = sound.fit
  each_clear sound ReceiptUnknown = sound.known
  each_clear sound Unanswered = sound.answered

  pub sound_from : ((defect : Defect) → Clears o g jobs defect) → IsSoundRun o g jobs
  sound_from clear =
      record {
        fit = clear WrongPlace;
        once = clear RootDoubled;
        opening = clear RootMissing;
        start = clear BaseChanged;
        known = clear ReceiptUnknown;
        answered = clear Unanswered;
      }

  one_first : (one other : Defect) → IsFirstDefect o g jobs one → IsFirstDefect o g jobs other → one ≡ other
  one_first one other found again =
      ⊎_elim
      (λ below. absurd (found.found (again.first one below)))
      (λ upto. ⊎_elim (λ above. absurd (again.found (found.first other above))) (λ from. number_one one other (omega arith)) (cases_lt (defect_number other) (defect_number one)))
      (cases_lt (defect_number one) (defect_number other))

  pub one_verdict : (one other : Verdict) → IsVerdict o g jobs one → IsVerdict o g jobs other → one ≡ other
  one_verdict Sound Sound sound again = refl
  one_verdict Sound (Unsound defect) sound first = absurd (first.found (each_clear sound defect))
  one_verdict (Unsound defect) Sound first sound = absurd (first.found (each_clear sound defect))
  one_verdict (Unsound one) (Unsound other) first again = ap Unsound (one_first one other first again)
