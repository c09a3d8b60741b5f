-- How driven nodes change.
use Rattle.std.specs.Prelude.{◌≡◌, ◌⊎◌, List}
use Rattle.sq_node.specs.declared.stepped.Stepped.{Stepped}
use Rattle.sq_node.specs.declared.stepped.Stepped.TheVariants.{Nothing}
use Rattle.sq_node.specs.FabricValue.{FabricValue}
use Rattle.sq_node.specs.NodeState.{NodeState, IsNodeOf}
use Rattle.sq_node.specs.Holds.{KeepsAll}
use Rattle.sq_node.specs.Steps.{JobStep, RequestStep, CutStep, SendStep, RecvStep, LoadStep, CompleteStep, ResumeStep, Looks}
use Rattle.sq_driver.specs.declared.gate.NodeStep.{NodeStep}
use Rattle.sq_driver.specs.declared.gate.NodeStep.TheVariants.{Job, Request, Cut, Send, Recv, Load, Complete, Resume, Pump, Answered}
use Rattle.sq_driver.specs.Ways.{ComesStepByStep, EachDriven}

-- a node performed the step. `Pump` and `Answered` are not steps of a node
abbrev pub MakesStep : FabricValue → NodeStep → NodeState → Stepped → NodeState → Type 0
MakesStep fabric Job old answer new = JobStep old answer new
MakesStep fabric Request old answer new = RequestStep old answer new
MakesStep fabric Cut old answer new = CutStep old answer new
MakesStep fabric Send old answer new = SendStep fabric old answer new
MakesStep fabric Recv old answer new = RecvStep old answer new
MakesStep fabric Load old answer new = LoadStep old answer new
MakesStep fabric Complete old answer new = CompleteStep old answer new
MakesStep fabric Resume old answer new = ResumeStep old answer new
MakesStep fabric Pump old answer new = (answer ≡ Nothing) × (new ≡ old)
MakesStep fabric Answered old answer new = (answer ≡ Nothing) × (new ≡ old)

-- a node performed one of its steps, or looked at trees
abbrev pub StepsOrLooks : FabricValue → NodeState → NodeState → Type 0
StepsOrLooks fabric old new = ((step : NodeStep) × (answer : Stepped) × MakesStep fabric step old answer new) ⊎ Looks old new

-- a node was driven: it changed by its own steps, still belongs to the same partition and to the
-- fabric, and the invariant of nodes still holds of it, under each opening, and each beginning of a
-- stage, under which it did
pub record Driven (fabric : FabricValue) (old new : NodeState) : Type 0 where
  pub steps : ComesStepByStep (StepsOrLooks fabric) old new
  pub part : new.core.part ≡ old.core.part
  pub stays : IsNodeOf fabric new
  pub holds : KeepsAll old new

-- each of the nodes was driven
abbrev pub AllDriven : FabricValue → List NodeState → List NodeState → Type 0
AllDriven fabric old new = EachDriven (Driven fabric) old new
