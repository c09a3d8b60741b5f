use Rattle.std.proofs.Common.{ℕ, List, [], ◌∙◌, ap}
use Rattle.std.specs.Prelude.{replicate}
use Rattle.rtrb.specs.Ring.{received}
use Rattle.sq_plan.specs.PlanValue.{PlanValue}
use Rattle.sq_serving.specs.declared.feed.Fed.{Fed}
use Rattle.sq_serving.specs.declared.desk.AskedTxn.{AskedTxn}
use Rattle.sq_serving.specs.Becoming.{ServeDeskValue, new_desk}
use Rattle.sq_serving.proofs.serving.desk_for.Goals as goal

pub returns-in-Ok-new-clause-desk : goal.returns-in-Ok-new-clause-desk
returns-in-Ok-new-clause-desk g c =
    let no_jobs : ℕ → List (List AskedTxn) = λ n. replicate n [] in
    let plan = c.new_plan-plan.result.now in
    let desk : List Fed → List (List AskedTxn) → PlanValue → ServeDeskValue =
    λ heard sides plan. new_desk g.W.Write.contents c.args.outlet heard sides plan c.args.config.is_strict in
    let heard = received c.args.lines.feed in
    c.new-in-Ok-new.ensures.value
    ∙ ap (λ (sides : List (List AskedTxn)). desk heard sides c.in-Ok.text) (c.in-Ok-new.ensures ∙ ap no_jobs c.parts-parts.ensures.parts)
    ∙ ap (λ (p : PlanValue). desk heard (no_jobs plan.parts) p) c.in-Ok.ensures
    ∙ ap (λ (h : List Fed). desk h (no_jobs plan.parts) plan) c.requires
    ∙ ap (λ (p : PlanValue). desk [] (no_jobs p.parts) p) c.new_plan-plan.ensures.plan
