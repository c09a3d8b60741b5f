-- What a teller hears of the receipts of a node that it is driven with, step by step.
use Rattle.std.proofs.Common.{◌≡◌, Bool, true, List, [], ◌∷◌, ◌++◌, refl, sym, ap, ◌∙◌, subst, append_assoc}
use Rattle.std.proofs.lemmas.List.{append-nil}
use Rattle.sq_node.specs.declared.stepped.Stepped.{Stepped}
use Rattle.sq_node.specs.declared.stepped.Stepped.TheVariants.{Did, Nothing, Memory}
use Rattle.sq_node_model.specs.NodeValue.{ReceiptValue}
use Rattle.sq_node.specs.FabricValue.{FabricValue}
use Rattle.sq_node.specs.NodeState.{NodeState, IsNodeOf}
use Rattle.sq_node.specs.Steps.{RequestStep, CutStep, SendStep, RecvStep, LoadStep, CompleteStep, Looks}
use Rattle.sq_driver.specs.declared.gate.NodeStep.{NodeStep}
use Rattle.sq_driver.specs.Nodes.{MakesStep}
use Rattle.sq_driver.specs.Told.{TellsEach, HasTold, DrivenAndTold}
use Rattle.sq_driver.specs.Laws.{node_no_turn}
use Rattle.sq_driver.proofs.Driving.{then_step, then_looks}

-- a node that is another one with these receipts has written none
written_none : (old new then : NodeState) → new ≡ then → then.receipts ≡ old.receipts → new.receipts ≡ old.receipts ++ []
written_none old new then same kept = ap (λ (node : NodeState). node.receipts) same ∙ kept ∙ sym (append-nil old.receipts)

-- only steps on jobs write receipts
pub request_writes : (old : NodeState) (answer : Stepped) (new : NodeState) → RequestStep old answer new → new.receipts ≡ old.receipts ++ []
request_writes old Did new made = written_none old new _ made.after refl
request_writes old Nothing new made = written_none old new _ made.after refl
request_writes old Memory new made = written_none old new old made refl

pub cut_writes : (old : NodeState) (answer : Stepped) (new : NodeState) → CutStep old answer new → new.receipts ≡ old.receipts ++ []
cut_writes old Did new made = written_none old new _ made.1.after refl
cut_writes old Nothing new made = written_none old new old made.0 refl
cut_writes old Memory new made = written_none old new old made refl

pub send_writes : (fabric : FabricValue) (old : NodeState) (answer : Stepped) (new : NodeState) → SendStep fabric old answer new → new.receipts ≡ old.receipts ++ []
send_writes fabric old Did new made = written_none old new _ made.1.after refl
send_writes fabric old Nothing new made = written_none old new old made.0 refl
send_writes fabric old Memory new made = absurd made

pub recv_writes : (old : NodeState) (answer : Stepped) (new : NodeState) → RecvStep old answer new → new.receipts ≡ old.receipts ++ []
recv_writes old Did new made = written_none old new _ made.1.after refl
recv_writes old Nothing new made = written_none old new old made.0 refl
recv_writes old Memory new made = absurd made

pub load_writes : (old : NodeState) (answer : Stepped) (new : NodeState) → LoadStep old answer new → new.receipts ≡ old.receipts ++ []
load_writes old Did new made = written_none old new _ made.1.after refl
load_writes old Nothing new made = written_none old new old made.0 refl
load_writes old Memory new made = written_none old new old made refl

pub complete_writes : (old : NodeState) (answer : Stepped) (new : NodeState) → CompleteStep old answer new → new.receipts ≡ old.receipts ++ []
complete_writes old Did new made = written_none old new _ made.after refl
complete_writes old Nothing new made = written_none old new _ made.0.after refl
complete_writes old Memory new made = absurd made

-- no receipt was written, and none told
pub told_nothing : {X : Type 0} (tells : X → ReceiptValue → X → Type 0) (old new : List ReceiptValue) (teller : X) → new ≡ old ++ [] → HasTold tells old teller new teller
told_nothing tells old new teller same = record { more = []; written = same; told = refl }

-- one was written and told
pub told_one : {X : Type 0} (tells : X → ReceiptValue → X → Type 0) (old new : List ReceiptValue) (receipt : ReceiptValue) (before after : X)
    → new ≡ old ++ receipt ∷ [] → tells before receipt after → HasTold tells old before new after
told_one tells old new receipt before after grown told = record { more = receipt ∷ []; written = grown; told = (after, told, refl) }

-- one step, and the teller heard what it wrote
pub telling_step : {X : Type 0} (tells : X → ReceiptValue → X → Type 0) (fabric : FabricValue) (step : NodeStep)
    (old : NodeState) (before : X) (answer : Stepped) (new : NodeState) (after : X)
    → IsNodeOf fabric old → MakesStep fabric step old answer new → HasTold tells old.receipts before new.receipts after
    → DrivenAndTold tells fabric old before new after
telling_step tells fabric step old before answer new after of made told = record {
  driven = then_step fabric old old step answer new (node_no_turn fabric old of) made;
  told = told;
}

-- looks write nothing
pub telling_looks : {X : Type 0} (tells : X → ReceiptValue → X → Type 0) (fabric : FabricValue)
    (first : NodeState) (before : X) (old : NodeState) (after : X) (new : NodeState)
    → DrivenAndTold tells fabric first before old after → Looks old new → DrivenAndTold tells fabric first before new after
telling_looks tells fabric first before old after new was looks = record {
  driven = then_looks fabric first old new was.driven looks;
  told = subst (λ (receipts : List ReceiptValue). HasTold tells first.receipts before receipts after)
      (sym (ap (λ (node : NodeState). node.receipts) looks.after)) was.told;
}

-- a teller's list has one more entry for each receipt that it hears, as long as it doesn't break off
grows : {X : Type 0} (tells : X → ReceiptValue → X → Type 0) (told : X → List ReceiptValue) (goes_on : X → Bool)
    → ((before after : X) (receipt : ReceiptValue) → tells before receipt after → goes_on after ≡ true → (goes_on before ≡ true) × (told after ≡ told before ++ receipt ∷ []))
    → (first last : X) (more : List ReceiptValue) → TellsEach tells first more last → goes_on last ≡ true → (goes_on first ≡ true) × (told last ≡ told first ++ more)
grows tells told goes_on each first last [] same still = (ap goes_on (sym same) ∙ still, ap told same ∙ sym (append-nil (told first)))
grows tells told goes_on each first last (receipt ∷ more) all still =
    let rest = grows tells told goes_on each all.0 last more all.2 still in
    let one = each first all.0 receipt all.1 rest.0 in
    (one.0, rest.1 ∙ ap (λ (xs : List ReceiptValue). xs ++ more) one.1 ∙ append_assoc (told first) (receipt ∷ []) more)

-- the list of a teller that didn't break off has grown by what was written
pub told_grows : {X : Type 0} (tells : X → ReceiptValue → X → Type 0) (told : X → List ReceiptValue) (goes_on : X → Bool)
    → ((before after : X) (receipt : ReceiptValue) → tells before receipt after → goes_on after ≡ true → (goes_on before ≡ true) × (told after ≡ told before ++ receipt ∷ []))
    → (old new : List ReceiptValue) (before after : X) → HasTold tells old before new after → goes_on after ≡ true
    → (more : List ReceiptValue) × (new ≡ old ++ more) × (told after ≡ told before ++ more)
told_grows tells told goes_on each old new before after has still =
    (has.more, has.written, (grows tells told goes_on each before after has.more has.told still).1)

keeps_along : {X : Type 0} (tells : X → ReceiptValue → X → Type 0) (keeps : X → X → Type 0)
    → ((x : X) → keeps x x) → ((x y z : X) → keeps x y → keeps y z → keeps x z)
    → ((before after : X) (receipt : ReceiptValue) → tells before receipt after → keeps before after)
    → (first last : X) (more : List ReceiptValue) → TellsEach tells first more last → keeps first last
keeps_along tells keeps same through each first last [] told = subst (keeps first) (sym told) (same first)
keeps_along tells keeps same through each first last (receipt ∷ more) told =
    through first told.0 last (each first told.0 receipt told.1) (keeps_along tells keeps same through each told.0 last more told.2)

-- what a teller keeps by each receipt it keeps by all of them
pub told_keeps : {X : Type 0} (tells : X → ReceiptValue → X → Type 0) (keeps : X → X → Type 0)
    → ((x : X) → keeps x x) → ((x y z : X) → keeps x y → keeps y z → keeps x z)
    → ((before after : X) (receipt : ReceiptValue) → tells before receipt after → keeps before after)
    → (old new : List ReceiptValue) (before after : X) → HasTold tells old before new after → keeps before after
told_keeps tells keeps same through each old new before after has = keeps_along tells keeps same through each before after has.more has.told
