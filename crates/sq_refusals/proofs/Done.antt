-- If the only defect is a job without an answer, the trees are grown.
use Rattle.std.proofs.Common.{List, arith}
use Rattle.sq_gather.specs.Prelude.{OpeningValue, GatheredValue, AllGrown}
use Rattle.sq_audit.specs.declared.job.Job.{Job}
use Rattle.sq_audit.specs.declared.verdict.Defect.TheVariants.{WrongPlace, Unanswered}
use Rattle.sq_audit.specs.Defects.{IsFirstDefect}

pub grown : (o : OpeningValue) (g : GatheredValue) (jobs : List Job) → IsFirstDefect o g jobs Unanswered → AllGrown g.statuses
grown o g jobs defect = (defect.first WrongPlace (omega arith)).grown
