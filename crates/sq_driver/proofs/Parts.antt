-- A step of a node leaves it the same partition's.
use Rattle.std.proofs.Common.{◌≡◌, ℕ, Bool, true, false, Option, Some, None, refl, ap, ◌∙◌}
use Rattle.std.specs.Prelude.{slice_get}
use Rattle.sq_schema.specs.TxnValue.{TxnValue}
use Rattle.sq_moves.specs.declared.recon.Range.{Range}
use Rattle.sq_exec.specs.declared.outcome.Outcome.{Outcome}
use Rattle.sq_exec.specs.CoreValue.{CoreValue}
use Rattle.sq_exec.specs.Moving.{begun_in}
use Rattle.sq_exec.specs.Serving.{IsTaken}
use Rattle.sq_node.specs.declared.stepped.Stepped.{Stepped}
use Rattle.sq_node.specs.declared.stepped.Stepped.TheVariants.{Did, Nothing, Memory}
use Rattle.sq_node.specs.FabricValue.{FabricValue}
use Rattle.sq_node.specs.NodeState.{NodeState}
use Rattle.sq_driver.specs.declared.gate.NodeStep.{NodeStep}
use Rattle.sq_driver.specs.declared.gate.NodeStep.TheVariants.{Job, Request, Cut, Send, Recv, Load, Complete, Resume, Pump, Answered}
use Rattle.sq_driver.specs.Nodes.{MakesStep}

taken_part : (waits : Bool) (old new : CoreValue) (txn : TxnValue) (outcome : Outcome) → IsTaken waits old txn outcome new → new.part ≡ old.part
taken_part true old new txn outcome taken = ap (λ (c : CoreValue). c.part) taken.last
taken_part false old new txn outcome taken = ap (λ (c : CoreValue). c.part) taken.after

begun_part : (core : CoreValue) (seg n pull : ℕ) (segment : Option Range) → (begun_in core seg n pull segment).part ≡ core.part
begun_part core seg n pull None = refl
begun_part core seg n pull (Some segment) = refl

same_part : (old new : NodeState) → new ≡ old → new.core.part ≡ old.core.part
same_part old new same = ap (λ (node : NodeState). node.core.part) same

pub step_part : (fabric : FabricValue) (step : NodeStep) (old : NodeState) (answer : Stepped) (new : NodeState) → MakesStep fabric step old answer new → new.core.part ≡ old.core.part
step_part fabric Job old Did new made = taken_part _ old.core new.core made.txn made.outcome made.taken
step_part fabric Job old Nothing new made = same_part old new made
step_part fabric Job old Memory new made = same_part old new made
step_part fabric Request old Did new made = same_part _ new made.after ∙ begun_part old.core made.seg made.node made.pull (slice_get old.core.recon.segments made.seg)
step_part fabric Request old Nothing new made = same_part _ new made.after
step_part fabric Request old Memory new made = same_part old new made
step_part fabric Cut old Did new made = ap (λ (c : CoreValue). c.part) made.1.cut.after
step_part fabric Cut old Nothing new made = same_part old new made.0
step_part fabric Cut old Memory new made = same_part old new made
step_part fabric Send old Did new made = same_part _ new made.1.after
step_part fabric Send old Nothing new made = same_part old new made.0
step_part fabric Send old Memory new made = absurd made
step_part fabric Recv old Did new made = same_part _ new made.1.after
step_part fabric Recv old Nothing new made = same_part old new made.0
step_part fabric Recv old Memory new made = absurd made
step_part fabric Load old Did new made = ap (λ (c : CoreValue). c.part) made.1.load.after
step_part fabric Load old Nothing new made = same_part old new made.0
step_part fabric Load old Memory new made = same_part old new made
step_part fabric Complete old Did new made = same_part _ new made.after
step_part fabric Complete old Nothing new made = same_part _ new made.0.after
step_part fabric Complete old Memory new made = absurd made
step_part fabric Resume old Did new made = ap (λ (c : CoreValue). c.part) made.taken.after
step_part fabric Resume old Nothing new made = same_part old new made.0
step_part fabric Resume old Memory new made = same_part old new made
step_part fabric Pump old answer new made = same_part old new made.1
step_part fabric Answered old answer new made = same_part old new made.1
