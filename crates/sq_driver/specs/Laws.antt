-- What each worker has to prove of being driven: a worker that takes no turn is unchanged, a worker
-- still belongs to its fabric, and a worker that was driven and then driven further was driven.
use Rattle.std.proofs.Common.{List, [], ◌∷◌, ◌++◌, refl, sym, ap, ◌∙◌, subst, append_assoc}
use Rattle.std.proofs.lemmas.List.{append-nil}
use Rattle.sq_node_model.specs.NodeValue.{ReceiptValue}
use Rattle.sq_node.specs.FabricValue.{FabricValue}
use Rattle.sq_node.specs.NodeState.{NodeState, IsNodeOf}
use Rattle.sq_shared.specs.Pump.{PumpValue}
use Rattle.sq_driver.specs.Ways.{ComesBySteps, ComesStepByStep}
use Rattle.sq_driver.specs.Nodes.{StepsOrLooks, Driven}
use Rattle.sq_driver.specs.Told.{TellsEach, HasTold, DrivenAndTold}
use Rattle.sq_driver.specs.Pumps.{HasAllSeats, TakesTurn, PumpDriven}

goes_on : {X : Type 0} (step : X → X → Type 0) (first mid last : X) (way more : List X)
    → ComesBySteps step first way mid → ComesBySteps step mid more last → ComesBySteps step first (more ++ way) last
goes_on step first mid last way [] came same = subst (ComesBySteps step first way) (sym same) came
goes_on step first mid last way (before ∷ earlier) came goes = (goes_on step first mid before way earlier came goes.0, goes.1)

-- a state that is reached from one that was reached from the first is reached from the first
comes_further : {X : Type 0} (step : X → X → Type 0) (first mid last : X)
    → ComesStepByStep step first mid → ComesStepByStep step mid last → ComesStepByStep step first last
comes_further step first mid last came more = (more.0 ++ came.0, goes_on step first mid last came.0 more.0 came.1 more.1)

pub node_no_turn : (fabric : FabricValue) (node : NodeState) → IsNodeOf fabric node → Driven fabric node node
node_no_turn fabric node of = record { steps = ([], refl); part = refl; stays = of; holds = λ o began is held. held }

pub node_stays : (fabric : FabricValue) (old new : NodeState) → Driven fabric old new → IsNodeOf fabric new
node_stays fabric old new driven = driven.stays

pub node_further : (fabric : FabricValue) (first old new : NodeState)
    → Driven fabric first old → Driven fabric old new → Driven fabric first new
node_further fabric first old new driven more = record {
  steps = comes_further (StepsOrLooks fabric) first old new driven.steps more.steps;
  part = more.part ∙ driven.part;
  stays = more.stays;
  holds = λ o began is held. more.holds o began is (driven.holds o began is held);
}

-- nothing was written, and nothing told
pub told_none : {X : Type 0} (tells : X → ReceiptValue → X → Type 0)
    (receipts : List ReceiptValue) (teller : X) → HasTold tells receipts teller receipts teller
told_none tells receipts teller =
    record { more = []; written = sym (append-nil receipts); told = refl }

tells_on : {X : Type 0} (tells : X → ReceiptValue → X → Type 0)
    (first mid last : X) (receipts more : List ReceiptValue)
    → TellsEach tells first receipts mid → TellsEach tells mid more last
    → TellsEach tells first (receipts ++ more) last
tells_on tells first mid last [] more same goes = subst (λ x. TellsEach tells x more last) same goes
tells_on tells first mid last (receipt ∷ receipts) more told goes =
    (told.0, told.1, tells_on tells told.0 mid last receipts more told.2 goes)

-- what was told, and what was told after it, was told
told_further : {X : Type 0} (tells : X → ReceiptValue → X → Type 0)
    (first : List ReceiptValue) (before : X) (old : List ReceiptValue) (between : X)
    (new : List ReceiptValue) (after : X)
    → HasTold tells first before old between → HasTold tells old between new after
    → HasTold tells first before new after
told_further tells first before old between new after told further = record {
  more = told.more ++ further.more;
  written = further.written ∙ ap (λ (xs : List ReceiptValue). xs ++ further.more) told.written
      ∙ append_assoc first told.more further.more;
  told = tells_on tells before between after told.more further.more told.told further.told;
}

pub telling_no_turn : {X : Type 0} (tells : X → ReceiptValue → X → Type 0) (fabric : FabricValue)
    (node : NodeState) (teller : X)
    → IsNodeOf fabric node → DrivenAndTold tells fabric node teller node teller
telling_no_turn tells fabric node teller of =
    record { driven = node_no_turn fabric node of; told = told_none tells node.receipts teller }

pub telling_further : {X : Type 0} (tells : X → ReceiptValue → X → Type 0) (fabric : FabricValue)
    (first : NodeState) (before : X) (old : NodeState) (between : X) (new : NodeState) (after : X)
    → DrivenAndTold tells fabric first before old between
    → DrivenAndTold tells fabric old between new after
    → DrivenAndTold tells fabric first before new after
telling_further tells fabric first before old between new after was more = record {
  driven = node_further fabric first old new was.driven more.driven;
  told = told_further tells first.receipts before old.receipts between new.receipts after
      was.told more.told;
}

pub pump_no_turn : (fabric : FabricValue) (pump : PumpValue) → HasAllSeats fabric pump → PumpDriven fabric pump pump
pump_no_turn fabric pump of =
    record { turns = ([], refl); number = refl; stays = of; claims = record { begun = refl; completed = refl } }

pub pump_stays : (fabric : FabricValue) (old new : PumpValue) → PumpDriven fabric old new → HasAllSeats fabric new
pump_stays fabric old new driven = driven.stays

pub pump_further : (fabric : FabricValue) (first old new : PumpValue)
    → PumpDriven fabric first old → PumpDriven fabric old new → PumpDriven fabric first new
pump_further fabric first old new driven more = record {
  turns = comes_further (TakesTurn fabric.recon) first old new driven.turns more.turns;
  number = more.number ∙ driven.number;
  stays = more.stays;
  claims = record { begun = more.claims.begun ∙ driven.claims.begun; completed = more.claims.completed ∙ driven.claims.completed };
}
