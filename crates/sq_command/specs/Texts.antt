-- The texts of a sample input.
use Rattle.std.specs.Prelude.{◌≡◌, ℕ, List, Ok}
use Rattle.sq_plan.specs.PlanValue.{PlanValue, IsPlan}
use Rattle.sq_plan.specs.Reading.{plan_in}
use Rattle.sq_command.specs.declared.texts.DemoTexts.{DemoTexts}

-- the text is read as this plan
abbrev pub IsPlanText : PlanValue → List ℕ → Type 0
IsPlanText plan text = IsPlan plan × (plan_in text ≡ Ok plan)

-- two of the texts are read as plans
pub record IsDemo (texts : DemoTexts) : Type 0 where
  pub old : PlanValue
  pub is_old : IsPlanText old texts.old.items
  pub new : PlanValue
  pub is_new : IsPlanText new texts.new.items
