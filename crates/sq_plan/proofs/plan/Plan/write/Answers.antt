-- The JSON value of the plan has the plan's text, and this text is read as the plan.
use Rattle.std.proofs.Common.{◌≡◌, string_bytes, IfOk, ap, subst, ◌∙◌}
use Rattle.std.proofs.lemmas.Result.{IfOk-weaker}
use Rattle.serde_json.specs.View.{view}
use Rattle.sq_plan.specs.PlanValue.{IsPlan}
use Rattle.sq_plan.specs.PlanText.{plan_text}
use Rattle.sq_plan.specs.Reading.{plan_in}
use Rattle.sq_plan.proofs.Texts.{written_text, plan_text-plan}
use Rattle.sq_plan.proofs.plan.Plan.write.Goals as goal

pub returns : goal.returns
returns c =
    let plan = c.args.self.now in
    let is_plan : IsPlan plan = subst IsPlan c.self.view_is c.self.invariant in
    let text : IfOk c.to_string.result (λ text. string_bytes text ≡ plan_text plan) =
    IfOk-weaker c.to_string.result _ _ (λ text. written_text (view c.in_ok-plan_value.field-0) plan (string_bytes text) c.in_ok-plan_value.ensures) c.to_string.ensures.text in
    record { text = text; reads_back = IfOk-weaker c.to_string.result _ _ (λ text is. ap plan_in is ∙ plan_text-plan plan is_plan) text }
