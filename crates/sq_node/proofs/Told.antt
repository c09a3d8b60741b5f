-- What the clauses of each step say, once it is known what the step did.
use Rattle.std.proofs.Common.{◌≡◌, ℕ, ◌<◌, subst, arith}
use Rattle.sq_node.specs.declared.stepped.Stepped.{Stepped}
use Rattle.sq_node.specs.FabricValue.{FabricValue}
use Rattle.sq_node.specs.NodeState.{NodeState, IsNodeOf}
use Rattle.sq_node.specs.Holds.{DoesAndKeeps}
use Rattle.sq_node.specs.Steps.{JobStep, RequestStep, SendStep, RecvStep, LoadStep, CompleteStep, ResumeStep}
use Rattle.sq_node.proofs.Stays.{job_stays, request_stays, send_stays, recv_stays, load_stays, complete_stays, resume_stays}
use Rattle.sq_node.proofs.Keeps.{job_keeps, request_keeps, send_keeps, recv_keeps, load_keeps, complete_keeps, resume_keeps}

-- something was done at one partition, and there was nothing to do at those before it
pub did_first : (Does : NodeState → ℕ → NodeState → Type 0) (HasNone : ℕ → Type 0) (old now new : NodeState) (at number : ℕ)
    → now ≡ old → at ≡ number → ((lower : ℕ) → lower < number → HasNone lower) → Does now at new
    → (first : ℕ) × Does old first new × ((lower : ℕ) → lower < first → HasNone lower)
did_first Does HasNone old now new at number same is none does =
    (at, subst (λ (node : NodeState). Does node at new) same does, λ lower below. none lower (omega (arith, below, is)))

module _ (fabric : FabricValue) (old : NodeState) (answer : Stepped) (new : NodeState) (of : IsNodeOf fabric old) where
  pub job_told : JobStep old answer new → DoesAndKeeps fabric JobStep old answer new
  job_told step = record { step = step; of = job_stays fabric old answer new step of; holds = job_keeps old answer new step }

  pub request_told : RequestStep old answer new → DoesAndKeeps fabric RequestStep old answer new
  request_told step = record { step = step; of = request_stays fabric old answer new step of; holds = request_keeps old answer new step }

  pub send_told : SendStep fabric old answer new → DoesAndKeeps fabric (SendStep fabric) old answer new
  send_told step = record { step = step; of = send_stays fabric old answer new step of; holds = send_keeps fabric old answer new step }

  pub recv_told : RecvStep old answer new → DoesAndKeeps fabric RecvStep old answer new
  recv_told step = record { step = step; of = recv_stays fabric old answer new step of; holds = recv_keeps old answer new step }

  pub load_told : LoadStep old answer new → DoesAndKeeps fabric LoadStep old answer new
  load_told step = record { step = step; of = load_stays fabric old answer new step of; holds = load_keeps old answer new step }

  pub complete_told : CompleteStep old answer new → DoesAndKeeps fabric CompleteStep old answer new
  complete_told step = record { step = step; of = complete_stays fabric old answer new step of; holds = complete_keeps old answer new step }

  pub resume_told : ResumeStep old answer new → DoesAndKeeps fabric ResumeStep old answer new
  resume_told step = record { step = step; of = resume_stays fabric old answer new step of; holds = resume_keeps old answer new step }
