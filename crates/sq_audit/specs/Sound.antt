-- When what was gathered of a run is sound.
use Rattle.std.specs.Prelude.{List}
use Rattle.sq_gather.specs.Prelude.{OpeningValue, ReceiptValue, GatheredValue, FitTogether, StandOnce, AllStand}
use Rattle.sq_audit.specs.declared.job.Job.{Job}
use Rattle.sq_audit.specs.Answers.{AllStart, AreKnown, AreAnswered}

-- what was gathered, with these receipts
abbrev pub with_receipts : GatheredValue → List ReceiptValue → GatheredValue
with_receipts g receipts = record g { receipts = receipts }

-- all families are in their places, each opening root key has one, and no root key has two; each
-- starts from its opening rows, the receipts tell its log and are of jobs, and each job has one
pub record IsSoundRun (o : OpeningValue) (g : GatheredValue) (jobs : List Job) : Type 0 where
  pub fit : FitTogether o g
  pub once : StandOnce g
  pub opening : AllStand o g
  pub start : AllStart o g
  pub known : AreKnown o g jobs
  pub answered : AreAnswered g jobs
