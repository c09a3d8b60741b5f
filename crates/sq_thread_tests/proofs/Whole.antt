-- How a run changes: all nodes and all pumps are its nodes and its pumps still.
use Rattle.std.proofs.Common.{◌≡◌, ℕ, ◌+◌, ◌<◌, List, length, get_or, Some, refl, sym, ◌∙◌, subst, ⊎_elim}
use Rattle.std.specs.Prelude.{◌≢◌, slice_get, slice_set}
use Rattle.std.proofs.lemmas.List.{length-set, map-set}
use Rattle.std.proofs.lemmas.Option.{slice_get_read}
use Rattle.sq_shared.specs.Seats.{AreSeatsOf, OnlyClaimed}
use Rattle.sq_shared.specs.Pump.{PumpValue}
use Rattle.sq_node_model.proofs.Lists.{at_map}
use Rattle.sq_node_model.proofs.Members.{set_stood}
use Rattle.sq_node.specs.FabricValue.{FabricValue}
use Rattle.sq_node.specs.NodeState.{NodeState, IsNodeOf}
use Rattle.sq_node.specs.Opened.{AreFirstSeats}
use Rattle.sq_driver.specs.declared.teller.TellingNode.{TellingNode}
use Rattle.sq_driver.specs.Told.{nodes_of}
use Rattle.sq_driver.specs.declared.collector.Collector.{Collector}
use Rattle.sq_gather.specs.Gathered.{AreAllOf, IsPumpOf}
use Rattle.sq_gather.proofs.AllOf.{pump_claimed}
use Rattle.sq_gather.proofs.Workers.{set_apart}
use Rattle.sq_driver.proofs.Collected.{Pairs, node_of}

-- the node of a pair that was read
node_there : (pairs : Pairs) (i : ℕ) (pair : TellingNode Collector) → i < length pairs → pair ≡ get_or pairs i pair → slice_get (nodes_of pairs) i ≡ Some pair.node
node_there pairs i pair within read = at_map node_of pairs i pair (slice_get_read pairs (length pairs) i pair refl within read)

-- the node of a place is one of the run
pub node_at : (fabric : FabricValue) (pairs : Pairs) (pumps : List PumpValue) (i : ℕ) (pair : TellingNode Collector) → AreAllOf fabric (nodes_of pairs) pumps → i < length pairs → pair ≡ get_or pairs i pair → IsNodeOf fabric pair.node
node_at fabric pairs pumps i pair whole within read = whole.each_node i pair.node (node_there pairs i pair within read)

-- one node changed
node_set : (fabric : FabricValue) (nodes : List NodeState) (pumps : List PumpValue) (i : ℕ) (old new : NodeState) → AreAllOf fabric nodes pumps → slice_get nodes i ≡ Some old → IsNodeOf fabric new → new.core.part ≡ old.core.part
    → AreAllOf fabric (slice_set nodes i new) pumps
node_set fabric nodes pumps i old new whole there of part =
    record {
      seats = subst (λ (count : ℕ). AreFirstSeats (count + length pumps) fabric.trees fabric.seats) (sym (length-set nodes i new)) whole.seats;
      count = length-set nodes i new ∙ whole.count;
      apart = set_apart nodes i old new whole.apart there part;
      each_node = λ k node stands.
          ⊎_elim
          (λ (here : (k ≡ i) × (new ≡ node)). subst (IsNodeOf fabric) here.1 of)
          (λ (apart : (k ≢ i) × (slice_get nodes k ≡ Some node)). whole.each_node k node apart.1)
          (set_stood nodes i k new node stands);
      each_pump = whole.each_pump;
    }

-- the same with the tellers
pub with_node : (fabric : FabricValue) (pairs : Pairs) (pumps : List PumpValue) (i : ℕ) (old new : TellingNode Collector) → AreAllOf fabric (nodes_of pairs) pumps → i < length pairs → old ≡ get_or pairs i old → IsNodeOf fabric new.node
    → new.node.core.part ≡ old.node.core.part → AreAllOf fabric (nodes_of (slice_set pairs i new)) pumps
with_node fabric pairs pumps i old new whole within read of part =
    subst (λ (nodes : List NodeState). AreAllOf fabric nodes pumps) (sym (map-set node_of pairs i new))
    (node_set fabric (nodes_of pairs) pumps i old.node new.node whole (node_there pairs i old within read) of part)

-- one pump changed
pub with_pump : (fabric : FabricValue) (nodes : List NodeState) (pumps : List PumpValue) (i : ℕ) (old new : PumpValue) → AreAllOf fabric nodes pumps → i < length pumps → old ≡ get_or pumps i old → AreSeatsOf fabric.trees new.seats → OnlyClaimed old.seats new.seats
    → AreAllOf fabric nodes (slice_set pumps i new)
with_pump fabric nodes pumps i old new whole within read of claims =
    record {
      seats = subst (λ (count : ℕ). AreFirstSeats (length nodes + count) fabric.trees fabric.seats) (sym (length-set pumps i new)) whole.seats;
      count = whole.count;
      apart = whole.apart;
      each_node = whole.each_node;
      each_pump = λ k pump there.
          ⊎_elim
          (λ (here : (k ≡ i) × (new ≡ pump)).
          subst (IsPumpOf fabric) here.1 (pump_claimed fabric old new (whole.each_pump i old (slice_get_read pumps (length pumps) i old refl within read)) of claims))
          (λ (apart : (k ≢ i) × (slice_get pumps k ≡ Some pump)). whole.each_pump k pump apart.1)
          (set_stood pumps i k new pump there);
    }
