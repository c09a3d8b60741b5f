use Rattle.std.proofs.Common.{◌≡◌, true, refl}
use Rattle.std.specs.Prelude.{is_some}
use Rattle.sq_explain.specs.Meanings.{meaning_of}
use Rattle.sq_model.specs.declared.answer.Refusal.{Refusal}
use Rattle.sq_model.specs.declared.answer.Refusal.TheVariants.{NotMoving}
use Rattle.sq_model.specs.Refusal.{refusal_number}
use Rattle.sq_model.proofs.laws.each_refusal_has_a_meaning.Goals as goal

told : (refusal : Refusal) → is_some (meaning_of (refusal_number refusal)) ≡ true
told NotMoving = refl
told _ = refl

pub returns : goal.returns
returns c = told
