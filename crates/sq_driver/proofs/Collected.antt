-- The nodes of a run with the tellers that collect their receipts.
use Rattle.std.proofs.Common.{◌≡◌, suc, ◌<◌, false, List, [], ◌∷◌, ◌++◌, length, get_or, refl, sym, ap, ◌∙◌, subst, append-nil, arith}
use Rattle.std.specs.Prelude.{All}
use Rattle.std.specs.List.{flat_map}
use Rattle.std.proofs.lemmas.List.{length-map, get_or-map}
use Rattle.std.proofs.lemmas.Option.{slice_get-get_or}
use Rattle.sq_moves.specs.OpeningValue.{OpeningValue}
use Rattle.sq_store.specs.StoreValue.{StoreValue}
use Rattle.sq_shared.specs.Pump.{PumpValue}
use Rattle.sq_node_model.specs.NodeValue.{ReceiptValue}
use Rattle.sq_node_model.specs.Gathered.{GatheredValue}
use Rattle.sq_node_model.proofs.Lists.{at_map}
use Rattle.sq_node.specs.FabricValue.{FabricValue}
use Rattle.sq_node.specs.NodeState.{NodeState, IsNodeOf}
use Rattle.sq_node.specs.Opened.{AreNewNodes}
use Rattle.sq_driver.specs.declared.teller.TellingNode.{TellingNode}
use Rattle.sq_driver.specs.Told.{HasTold, AllDrivenTelling, nodes_of}
use Rattle.sq_driver.specs.Pumps.{AllPumpsDriven}
use Rattle.sq_driver.proofs.Together.{all_were_driven}
use Rattle.sq_driver.specs.declared.collector.Collector.{Collector}
use Rattle.sq_driver.specs.Collected.{CollectsOrBreaksOff}
use Rattle.sq_driver.proofs.Collecting.{collects_all, went_on}
use Rattle.sq_gather.specs.Gathered.{AreAllOf, InPartOrder, IsGathered}
use Rattle.sq_gather.proofs.ByPart.{same_in_order}
use Rattle.sq_gather.proofs.Lists.{empty}
use Rattle.sq_driver.specs.StageRunValue.{HaveCollected, AreUnanswered}
use Rattle.sq_driver.proofs.Driven.{whole_driven, order_driven}

abbrev pub Pairs : Type 0
Pairs = List (TellingNode Collector)

abbrev pub node_of : TellingNode Collector → NodeState
node_of pair = pair.node

abbrev pub collected_of : TellingNode Collector → List ReceiptValue
collected_of pair = pair.teller.receipts.items

-- once none are left, those that were taken are all
pub taken_all : {X : Type 0} (taken left all : List X) → taken ++ left ≡ all → length left ≡ 0 → taken ≡ all
taken_all {X} taken left all parts none = sym (append-nil taken) ∙ ap (λ (more : List X). taken ++ more) (sym (empty left none)) ∙ parts

-- the tellers that have collected nothing of nodes that wrote nothing have collected all
pub new_collected : (nodes : List NodeState) (pairs : Pairs) → nodes_of pairs ≡ nodes → AreUnanswered nodes → All (λ pair. collected_of pair ≡ []) pairs → HaveCollected pairs
new_collected nodes pairs same none empty = λ i d lt whole.
    let unanswered = subst AreUnanswered (sym same) none in
    let count = length-map pairs node_of in
    let written = unanswered i d.node (omega (arith, lt, count)) in
    empty i d lt ∙ sym (ap (λ (node : NodeState). node.receipts) (sym (get_or-map node_of pairs i d d.node lt)) ∙ written)

-- new nodes are in the order of their partitions, and wrote nothing
module _ (o : OpeningValue) (fabric : FabricValue) (stores : List StoreValue) (nodes : List NodeState) (are : AreNewNodes o fabric stores nodes) where
  pub new_in_order : InPartOrder nodes
  new_in_order part node there = λ k. ((are.each part node there).core k).part

  pub new_unanswered : AreUnanswered nodes
  new_unanswered = λ i d lt. (are.each i (get_or nodes i d) (slice_get-get_or nodes i d lt)).receipts

-- each node of a run is one of its fabric
pub all_of_fabric : (fabric : FabricValue) (pairs : Pairs) (pumps : List PumpValue) → AreAllOf fabric (nodes_of pairs) pumps → All (λ pair. IsNodeOf fabric pair.node) pairs
all_of_fabric fabric pairs pumps all = λ i d lt. all.each_node i (get_or pairs i d).node (at_map node_of pairs i (get_or pairs i d) (slice_get-get_or pairs i d lt))

one_collected : (old new : TellingNode Collector) → HasTold CollectsOrBreaksOff old.node.receipts old.teller new.node.receipts new.teller
    → (old.teller.broke_off ≡ false → collected_of old ≡ old.node.receipts) → new.teller.broke_off ≡ false → collected_of new ≡ new.node.receipts
one_collected old new told was whole =
    let grew = collects_all old.node.receipts new.node.receipts old.teller new.teller told whole in
    grew.2 ∙ ap (λ (list : List ReceiptValue). list ++ grew.0) (was (went_on old.node.receipts new.node.receipts old.teller new.teller told whole)) ∙ sym grew.1

-- what holds of a run in memory
abbrev pub HoldsOfRun : FabricValue → Pairs → List PumpValue → Type 0
HoldsOfRun fabric pairs pumps = AreAllOf fabric (nodes_of pairs) pumps × InPartOrder (nodes_of pairs) × HaveCollected pairs

-- and holds of it once it was driven
pub driven_holds : (fabric : FabricValue) (old new : Pairs) (before after : List PumpValue) → AllDrivenTelling CollectsOrBreaksOff fabric old new → AllPumpsDriven fabric before after
    → HoldsOfRun fabric old before → HoldsOfRun fabric new after
driven_holds fabric old new before after driven pumps was =
    let nodes = all_were_driven CollectsOrBreaksOff fabric old new driven in (
      whole_driven fabric (nodes_of old) (nodes_of new) before after nodes pumps was.0,
      order_driven fabric (nodes_of old) (nodes_of new) before after nodes pumps was.1,
      λ i d lt whole.
          let within : i < length old = omega (arith, lt, driven.count) in
          one_collected (get_or old i d) (get_or new i d) (driven.each i d within).told (was.2 i d within) whole,
    )

all_collected : (pairs : Pairs) → HaveCollected pairs → All (λ pair. pair.teller.broke_off ≡ false) pairs → flat_map collected_of pairs ≡ flat_map (λ (node : NodeState). node.receipts) (nodes_of pairs)
all_collected [] have whole = refl
all_collected (pair ∷ pairs) have whole =
    let first = have 0 pair (omega arith) (whole 0 pair (omega arith)) in
    let rest = all_collected pairs (λ i d lt. have (suc i) d (omega (arith, lt))) (λ i d lt. whole (suc i) d (omega (arith, lt))) in
    λ k. first k ++ rest k

-- what all tellers collected, after the receipts of earlier stages, is what is gathered
pub all_gathered : (fabric : FabricValue) (pairs : Pairs) (pumps : List PumpValue) (g : GatheredValue) → HoldsOfRun fabric pairs pumps → IsGathered fabric (nodes_of pairs) pumps g
    → All (λ pair. pair.teller.broke_off ≡ false) pairs → fabric.receipts ++ flat_map collected_of pairs ≡ g.receipts
all_gathered fabric pairs pumps g holds gathered whole =
    ap (λ (list : List ReceiptValue). fabric.receipts ++ list)
    (all_collected pairs holds.2 whole
    ∙ ap (flat_map (λ (node : NodeState). node.receipts)) (sym (same_in_order (nodes_of pairs) gathered.by_part gathered.ordered holds.1)))
    ∙ sym gathered.receipts
