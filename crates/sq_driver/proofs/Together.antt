-- All workers of a run, once each was driven.
use Rattle.std.proofs.Common.{ℕ, ◌<◌, List, [], ◌∷◌, length, get_or, sym, ◌∙◌, subst, arith}
use Rattle.std.specs.Prelude.{All}
use Rattle.std.proofs.lemmas.List.{length-map, get_or-map}
use Rattle.sq_moves.specs.OpeningValue.{OpeningValue}
use Rattle.sq_moves.specs.Opening.{IsOpening}
use Rattle.sq_node_model.specs.BeganWith.{BeganWith}
use Rattle.sq_node_model.specs.NodeValue.{ReceiptValue}
use Rattle.sq_node.specs.FabricValue.{FabricValue}
use Rattle.sq_node.specs.NodeState.{NodeState, IsNodeOf}
use Rattle.sq_node.specs.Holds.{HoldsUnder}
use Rattle.sq_shared.specs.Pump.{PumpValue}
use Rattle.sq_driver.specs.Ways.{EachDriven}
use Rattle.sq_driver.specs.Nodes.{Driven, AllDriven}
use Rattle.sq_driver.specs.declared.teller.TellingNode.{TellingNode}
use Rattle.sq_driver.specs.Told.{AllDrivenTelling, nodes_of}
use Rattle.sq_driver.specs.Pumps.{HasAllSeats, PumpDriven, AllPumpsDriven}

-- what a worker that was driven brings along holds of all of them
each_after : {X : Type 0} (driven : X → X → Type 0) (P : X → Type 0) (old new : List X) → EachDriven driven old new
    → ((i : ℕ) (d : X) → i < length old → driven (get_or old i d) (get_or new i d) → P (get_or new i d)) → All P new
each_after driven P old new all brings = λ i d lt. let within : i < length old = omega (arith, lt, all.count) in brings i d within (all.each i d within)

-- what a node keeps holds of all of them still
pub all_hold : (fabric : FabricValue) (o : OpeningValue) (began : BeganWith) (old new : List NodeState) → IsOpening o → AllDriven fabric old new → All (HoldsUnder o began) old → All (HoldsUnder o began) new
all_hold fabric o began old new is driven held =
    each_after (Driven fabric) (HoldsUnder o began) old new driven (λ i d within one. one.holds o began is (held i d within))

-- they are those of the fabric still
pub all_stay : (fabric : FabricValue) (old new : List NodeState) → AllDriven fabric old new → All (IsNodeOf fabric) new
all_stay fabric old new driven = each_after (Driven fabric) (IsNodeOf fabric) old new driven (λ i d within one. one.stays)

pub all_pumps_stay : (fabric : FabricValue) (old new : List PumpValue) → AllPumpsDriven fabric old new → All (HasAllSeats fabric) new
all_pumps_stay fabric old new driven = each_after (PumpDriven fabric) (HasAllSeats fabric) old new driven (λ i d within one. one.stays)

some_driven : {X : Type 0} (tells : X → ReceiptValue → X → Type 0) (fabric : FabricValue) (old new : List (TellingNode X)) (some : TellingNode X)
    → AllDrivenTelling tells fabric old new → AllDriven fabric (nodes_of old) (nodes_of new)
some_driven {X} tells fabric old new some all =
    let node : TellingNode X → NodeState = λ pair. pair.node in
    record {
      count = length-map new node ∙ all.count ∙ sym (length-map old node);
      each = λ i d lt.
          let was : i < length old = omega (arith, lt, length-map old node) in
          let now : i < length new = omega (arith, was, all.count) in
          subst (λ (before : NodeState). Driven fabric before (get_or (nodes_of new) i d)) (sym (get_or-map node old i some d was))
          (subst (Driven fabric (get_or old i some).node) (sym (get_or-map node new i some d now)) (all.each i some was).driven);
    }

-- nodes that were driven with their tellers were driven
pub all_were_driven : {X : Type 0} (tells : X → ReceiptValue → X → Type 0) (fabric : FabricValue) (old new : List (TellingNode X))
    → AllDrivenTelling tells fabric old new → AllDriven fabric (nodes_of old) (nodes_of new)
all_were_driven {X} tells fabric [] new all =
    record { count = length-map new (λ (pair : TellingNode X). pair.node) ∙ all.count; each = λ i d lt. absurd (omega (arith, lt)) }
all_were_driven tells fabric (one ∷ old) new all = some_driven tells fabric (one ∷ old) new one all
