use Rattle.std.proofs.Common.{◌≡◌, true, refl}
use Rattle.std.specs.Prelude.{is_some}
use Rattle.sq_explain.specs.Meanings.{meaning_of}
use Rattle.sq_audit.specs.declared.verdict.Defect.{Defect}
use Rattle.sq_audit.specs.declared.verdict.Defect.TheVariants.{RootMissing}
use Rattle.sq_audit.specs.Defects.{defect_number}
use Rattle.sq_audit.proofs.laws.each_defect_has_a_meaning.Goals as goal

told : (defect : Defect) → is_some (meaning_of (defect_number defect)) ≡ true
told RootMissing = refl
told _ = refl

pub returns : goal.returns
returns c = told
