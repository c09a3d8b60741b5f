use Rattle.sq_audit.proofs.Defects.{each_clear, sound_from}
use Rattle.sq_audit.proofs.laws.sound_is_clear_of_each_defect.Goals as goal

pub returns : goal.returns
returns c = λ o g jobs. (each_clear o g jobs, sound_from o g jobs)
