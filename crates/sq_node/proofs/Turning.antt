-- Steps one after another.
use Rattle.std.proofs.Common.{◌≡◌, List, ap}
use Rattle.sq_node_model.specs.NodeValue.{ReceiptValue}
use Rattle.sq_node.specs.declared.stepped.Stepped.{Stepped}
use Rattle.sq_node.specs.declared.stepped.Stepped.TheVariants.{Did, Nothing, Memory}
use Rattle.sq_node.specs.FabricValue.{FabricValue}
use Rattle.sq_node.specs.NodeState.{NodeState}
use Rattle.sq_node.specs.Holds.{DoesAndKeeps}
use Rattle.sq_node.specs.Steps.{RequestStep, CutStep, SendStep, RecvStep, LoadStep, CompleteStep}
use Rattle.sq_node.specs.Turn.{summary, StepOf, Then}

-- two steps keep what each keeps
pub does_then : (fabric : FabricValue) (Step Next : StepOf) (old between new : NodeState) (answered then_answered answer : Stepped) → DoesAndKeeps fabric Step old answered between → DoesAndKeeps fabric Next between then_answered new
    → answer ≡ summary answered then_answered → DoesAndKeeps fabric (Then Step Next) old answer new
does_then fabric Step Next old between new answered then_answered answer first next sums =
    record {
      step = record { between = between; answered = answered; then_answered = then_answered; step = first.step; next = next.step; sums = sums };
      of = next.of;
      holds = λ o began is h. next.holds o began is (first.holds o began is h);
    }

-- these six steps write no receipt

abbrev pub receipts : NodeState → List ReceiptValue
receipts node = node.receipts

pub cut_keeps : (old : NodeState) (answer : Stepped) (new : NodeState) → CutStep old answer new → new.receipts ≡ old.receipts
cut_keeps old Did new cut = ap receipts cut.1.after
cut_keeps old Nothing new cut = ap receipts cut.0
cut_keeps old Memory new cut = ap receipts cut

pub send_keeps : (fabric : FabricValue) (old : NodeState) (answer : Stepped) (new : NodeState) → SendStep fabric old answer new → new.receipts ≡ old.receipts
send_keeps fabric old Did new send = ap receipts send.1.after
send_keeps fabric old Nothing new send = ap receipts send.0
send_keeps fabric old Memory new send = absurd send

pub recv_keeps : (old : NodeState) (answer : Stepped) (new : NodeState) → RecvStep old answer new → new.receipts ≡ old.receipts
recv_keeps old Did new recv = ap receipts recv.1.after
recv_keeps old Nothing new recv = ap receipts recv.0
recv_keeps old Memory new recv = absurd recv

pub load_keeps : (old : NodeState) (answer : Stepped) (new : NodeState) → LoadStep old answer new → new.receipts ≡ old.receipts
load_keeps old Did new load = ap receipts load.1.after
load_keeps old Nothing new load = ap receipts load.0
load_keeps old Memory new load = ap receipts load

pub request_keeps : (old : NodeState) (answer : Stepped) (new : NodeState) → RequestStep old answer new → new.receipts ≡ old.receipts
request_keeps old Did new begins = ap receipts begins.after
request_keeps old Nothing new looks = ap receipts looks.after
request_keeps old Memory new same = ap receipts same

pub complete_keeps : (old : NodeState) (answer : Stepped) (new : NodeState) → CompleteStep old answer new → new.receipts ≡ old.receipts
complete_keeps old Did new completes = ap receipts completes.after
complete_keeps old Nothing new looks = ap receipts looks.0.after
complete_keeps old Memory new never = absurd never
