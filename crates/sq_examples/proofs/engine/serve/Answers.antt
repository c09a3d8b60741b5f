use Rattle.std.proofs.Common.{◌≡◌, ◌∙◌}
use Rattle.sq_plan.specs.PlanValue.{PlanValue}
use Rattle.sq_audit.specs.declared.verdict.Verdict.{Verdict}
use Rattle.sq_engine.specs.Engine.{HasOpened, HasClosed, verdict_on}
use Rattle.sq_engine.specs.Ending.{EndsAsPlanned}
use Rattle.sq_examples.specs.declared.engine.CameBack.{CameBack}
use Rattle.sq_examples.proofs.Coming.{from_ok, value_holds, comes_back}
use Rattle.sq_examples.proofs.engine.serve.Goals as goal

pub returns : goal.returns
returns g c =
    let engine = c.close.new.self in
    let end = c.serve_until-2.new.engine in
    let came : CameBack = record { engine = engine; verdict = c.in_ok-verdict.verdict } in
    let is : c.in_ok-back.back ≡ c.args.opening.new =
    from_ok (λ (back : PlanValue). back ≡ c.new_plan.result.now) c.clone.result c.in_ok-back.back c.in_ok-back.ensures.value
    (value_holds (λ (back : PlanValue). back ≡ c.new_plan.result.now) _ c.clone.result c.clone.ensures.cases)
    ∙ c.new_plan.ensures.plan in
    comes_back came
    (from_ok (HasOpened c.args.opening) c.open.result c.in_ok-engine.engine c.in_ok-engine.ensures.value c.open.ensures.opened)
    c.in_ok-serve_until.ensures c.in_ok-go_to.ensures c.in_ok-go_to-2.ensures c.in_ok-serve_until-2.ensures is
    (from_ok (λ _. HasClosed end engine) c.close.result c.in_ok-verdict.verdict c.in_ok-verdict.ensures.value c.close.ensures.closed)
    (from_ok (λ _. EndsAsPlanned engine) c.close.result c.in_ok-verdict.verdict c.in_ok-verdict.ensures.value c.close.ensures.planned)
    (from_ok (λ (verdict : Verdict). verdict ≡ verdict_on engine.jobs) c.close.result c.in_ok-verdict.verdict c.in_ok-verdict.ensures.value c.close.ensures.verdict)
