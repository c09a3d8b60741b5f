-- A node that is driven, step by step.
use Rattle.std.proofs.Common.{◌∷◌, sym, ◌∙◌, subst, inl, inr}
use Rattle.sq_node.specs.declared.stepped.Stepped.{Stepped}
use Rattle.sq_node.specs.declared.stepped.Stepped.TheVariants.{Nothing}
use Rattle.sq_node.specs.FabricValue.{FabricValue}
use Rattle.sq_node.specs.NodeState.{NodeState, IsNodeOf}
use Rattle.sq_node.specs.Holds.{KeepsAll}
use Rattle.sq_node.specs.Steps.{Looks}
use Rattle.sq_node.proofs.Stays.{job_stays, request_stays, cut_stays, send_stays, recv_stays, load_stays, complete_stays, resume_stays}
use Rattle.sq_node.proofs.Keeps.{same_keeps, job_keeps, request_keeps, cut_keeps, send_keeps, recv_keeps, load_keeps, complete_keeps, resume_keeps, looks_keep}
use Rattle.sq_driver.specs.declared.gate.NodeStep.{NodeStep}
use Rattle.sq_driver.specs.declared.gate.NodeStep.TheVariants.{Job, Request, Cut, Send, Recv, Load, Complete, Resume, Pump, Answered}
use Rattle.sq_driver.specs.Nodes.{MakesStep, Driven}
use Rattle.sq_driver.proofs.Parts.{step_part}

step_stays : (fabric : FabricValue) (step : NodeStep) (old : NodeState) (answer : Stepped) (new : NodeState) → MakesStep fabric step old answer new → IsNodeOf fabric old → IsNodeOf fabric new
step_stays fabric Job old answer new made of = job_stays fabric old answer new made of
step_stays fabric Request old answer new made of = request_stays fabric old answer new made of
step_stays fabric Cut old answer new made of = cut_stays fabric old answer new made of
step_stays fabric Send old answer new made of = send_stays fabric old answer new made of
step_stays fabric Recv old answer new made of = recv_stays fabric old answer new made of
step_stays fabric Load old answer new made of = load_stays fabric old answer new made of
step_stays fabric Complete old answer new made of = complete_stays fabric old answer new made of
step_stays fabric Resume old answer new made of = resume_stays fabric old answer new made of
step_stays fabric Pump old answer new made of = subst (IsNodeOf fabric) (sym made.1) of
step_stays fabric Answered old answer new made of = subst (IsNodeOf fabric) (sym made.1) of

step_keeps : (fabric : FabricValue) (step : NodeStep) (old : NodeState) (answer : Stepped) (new : NodeState) → MakesStep fabric step old answer new → KeepsAll old new
step_keeps fabric Job old answer new made = job_keeps old answer new made
step_keeps fabric Request old answer new made = request_keeps old answer new made
step_keeps fabric Cut old answer new made = cut_keeps old answer new made
step_keeps fabric Send old answer new made = send_keeps fabric old answer new made
step_keeps fabric Recv old answer new made = recv_keeps old answer new made
step_keeps fabric Load old answer new made = load_keeps old answer new made
step_keeps fabric Complete old answer new made = complete_keeps old answer new made
step_keeps fabric Resume old answer new made = resume_keeps old answer new made
step_keeps fabric Pump old answer new made = same_keeps old new made.1
step_keeps fabric Answered old answer new made = same_keeps old new made.1

-- one step more
pub then_step : (fabric : FabricValue) (first old : NodeState) (step : NodeStep) (answer : Stepped) (new : NodeState) → Driven fabric first old → MakesStep fabric step old answer new → Driven fabric first new
then_step fabric first old step answer new driven made =
    record {
      steps = (old ∷ driven.steps.0, (driven.steps.1, inl (step, answer, made)));
      part = step_part fabric step old answer new made ∙ driven.part;
      stays = step_stays fabric step old answer new made driven.stays;
      holds = λ o began is held. step_keeps fabric step old answer new made o began is (driven.holds o began is held);
    }

pub then_looks : (fabric : FabricValue) (first old new : NodeState) → Driven fabric first old → Looks old new → Driven fabric first new
then_looks fabric first old new driven looks =
    record {
      steps = (old ∷ driven.steps.0, (driven.steps.1, inr looks));
      part = step_part fabric Request old Nothing new looks ∙ driven.part;
      stays = request_stays fabric old Nothing new looks driven.stays;
      holds = λ o began is held. looks_keep old new looks o began is (driven.holds o began is held);
    }
