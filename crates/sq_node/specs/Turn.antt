-- What a turn of a node does to it.
use Rattle.std.specs.Prelude.{◌≡◌}
use Rattle.sq_node.specs.declared.stepped.Stepped.{Stepped}
use Rattle.sq_node.specs.declared.stepped.Stepped.TheVariants.{Did, Nothing, Memory}
use Rattle.sq_node.specs.FabricValue.{FabricValue}
use Rattle.sq_node.specs.NodeState.{NodeState}
use Rattle.sq_node.specs.Steps.{JobStep, RequestStep, CutStep, SendStep, RecvStep, LoadStep, CompleteStep, ResumeStep}

-- `Did` if one of two steps did something, else `Memory` if one lacked memory, else `Nothing`
abbrev pub summary : Stepped → Stepped → Stepped
summary Did next = Did
summary Nothing next = next
summary Memory Did = Did
summary Memory Nothing = Memory
summary Memory Memory = Memory

-- how a step may change a node, by its answer
abbrev pub StepOf : Type 1
StepOf = NodeState → Stepped → NodeState → Type 0

-- a step and then the next: each has an answer, there is a node between them, and the answer of
-- both is the summary
pub record Then (Step Next : StepOf) (old : NodeState) (answer : Stepped) (new : NodeState) : Type 0 where
  pub between : NodeState
  pub answered : Stepped
  pub then_answered : Stepped
  pub step : Step old answered between
  pub next : Next between then_answered new
  pub sums : answer ≡ summary answered then_answered

-- the second half of a turn: these four steps, in this order
abbrev pub TakesIn : StepOf
TakesIn = Then RecvStep (Then LoadStep (Then CompleteStep ResumeStep))

-- a turn: these eight steps, in this order
abbrev pub TurnStep : FabricValue → StepOf
TurnStep fabric = Then JobStep (Then RequestStep (Then CutStep (Then (SendStep fabric) TakesIn)))
