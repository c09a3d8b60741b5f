-- The defects, each the failure of its clause, and the verdict: the first defect, or that there is
-- none.
use Rattle.std.specs.Prelude.{ℕ, ◌<◌, List}
use Rattle.sq_gather.specs.Prelude.{OpeningValue, GatheredValue, FitTogether, StandOnce, AllStand}
use Rattle.sq_audit.specs.declared.job.Job.{Job}
use Rattle.sq_audit.specs.declared.verdict.Defect.{Defect}
use Rattle.sq_audit.specs.declared.verdict.Defect.TheVariants.{RootMissing, RootDoubled, BaseChanged, WrongPlace, ReceiptUnknown, Unanswered}
use Rattle.sq_audit.specs.declared.verdict.Verdict.{Verdict}
use Rattle.sq_audit.specs.declared.verdict.Verdict.TheVariants.{Sound, Unsound}
use Rattle.sq_audit.specs.Answers.{AllStart, AreKnown, AreAnswered}
use Rattle.sq_audit.specs.Sound.{IsSoundRun}

-- the number of a defect; the defects are ordered by it
abbrev pub defect_number : Defect → ℕ
defect_number RootMissing = 301
defect_number RootDoubled = 302
defect_number BaseChanged = 303
defect_number WrongPlace = 304
defect_number ReceiptUnknown = 305
defect_number Unanswered = 306

-- what was gathered does not have this defect
abbrev pub Clears : OpeningValue → GatheredValue → List Job → Defect → Type 0
Clears o g jobs RootMissing = AllStand o g
Clears o g jobs RootDoubled = StandOnce g
Clears o g jobs BaseChanged = AllStart o g
Clears o g jobs WrongPlace = FitTogether o g
Clears o g jobs ReceiptUnknown = AreKnown o g jobs
Clears o g jobs Unanswered = AreAnswered g jobs

-- it has no defect with a number below `number`
abbrev pub ClearBelow : OpeningValue → GatheredValue → List Job → ℕ → Type 0
ClearBelow o g jobs number = (other : Defect) → defect_number other < number → Clears o g jobs other

-- it has this defect, and none with a lower number
pub record IsFirstDefect (o : OpeningValue) (g : GatheredValue) (jobs : List Job) (defect : Defect) : Type 0 where
  pub found : Clears o g jobs defect → ⊥
  pub first : ClearBelow o g jobs (defect_number defect)

abbrev pub IsVerdict : OpeningValue → GatheredValue → List Job → Verdict → Type 0
IsVerdict o g jobs Sound = IsSoundRun o g jobs
IsVerdict o g jobs (Unsound defect) = IsFirstDefect o g jobs defect
