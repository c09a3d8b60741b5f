-- How a run changes: all nodes and all pumps are its nodes and its pumps still.
use Rattle.std.proofs.Common.{◌≡◌, ℕ, ◌+◌, ◌<◌, List, length, get_or, Some, refl, sym, ◌∙◌, subst, ⊎_elim}
use Rattle.std.specs.Prelude.{◌≢◌, slice_get, slice_set}
use Rattle.std.proofs.lemmas.List.{length-set}
use Rattle.std.proofs.lemmas.Option.{slice_get_read}
use Rattle.sq_shared.specs.Seats.{AreSeatsOf, OnlyClaimed}
use Rattle.sq_shared.specs.Pump.{PumpValue}
use Rattle.sq_node_model.proofs.Members.{set_stood}
use Rattle.sq_node.specs.FabricValue.{FabricValue}
use Rattle.sq_node.specs.NodeState.{NodeState, IsNodeOf}
use Rattle.sq_node.specs.Opened.{AreFirstSeats}
use Rattle.sq_gather.specs.Gathered.{AreAllOf, IsPumpOf}
use Rattle.sq_gather.proofs.AllOf.{pump_claimed}
use Rattle.sq_gather.proofs.Workers.{set_apart}

-- the node of a place is one of the run
pub node_at : (fabric : FabricValue) (nodes : List NodeState) (pumps : List PumpValue) (i : ℕ) (node : NodeState) → AreAllOf fabric nodes pumps → i < length nodes → node ≡ get_or nodes i node → IsNodeOf fabric node
node_at fabric nodes pumps i node whole within read = whole.each_node i node (slice_get_read nodes (length nodes) i node refl within read)

-- one node changed
pub with_node : (fabric : FabricValue) (nodes : List NodeState) (pumps : List PumpValue) (i : ℕ) (old new : NodeState) → AreAllOf fabric nodes pumps → i < length nodes → old ≡ get_or nodes i old → IsNodeOf fabric new → new.core.part ≡ old.core.part
    → AreAllOf fabric (slice_set nodes i new) pumps
with_node fabric nodes pumps i old new whole within read of part =
    record {
      seats = subst (λ (count : ℕ). AreFirstSeats (count + length pumps) fabric.trees fabric.seats) (sym (length-set nodes i new)) whole.seats;
      count = length-set nodes i new ∙ whole.count;
      apart = set_apart nodes i old new whole.apart (slice_get_read nodes (length nodes) i old refl within read) part;
      each_node = λ k node there.
          ⊎_elim
          (λ (here : (k ≡ i) × (new ≡ node)). subst (IsNodeOf fabric) here.1 of)
          (λ (apart : (k ≢ i) × (slice_get nodes k ≡ Some node)). whole.each_node k node apart.1)
          (set_stood nodes i k new node there);
      each_pump = whole.each_pump;
    }

-- one pump changed
pub with_pump : (fabric : FabricValue) (nodes : List NodeState) (pumps : List PumpValue) (i : ℕ) (old new : PumpValue) → AreAllOf fabric nodes pumps → i < length pumps → old ≡ get_or pumps i old → AreSeatsOf fabric.trees new.seats → OnlyClaimed old.seats new.seats
    → AreAllOf fabric nodes (slice_set pumps i new)
with_pump fabric nodes pumps i old new whole within read of claims =
    record {
      seats = subst (λ (count : ℕ). AreFirstSeats (length nodes + count) fabric.trees fabric.seats) (sym (length-set pumps i new)) whole.seats;
      count = whole.count;
      apart = whole.apart;
      each_node = whole.each_node;
      each_pump = λ k pump there.
          ⊎_elim
          (λ (here : (k ≡ i) × (new ≡ pump)).
          subst (IsPumpOf fabric) here.1 (pump_claimed fabric old new (whole.each_pump i old (slice_get_read pumps (length pumps) i old refl within read)) of claims))
          (λ (apart : (k ≢ i) × (slice_get pumps k ≡ Some pump)). whole.each_pump k pump apart.1)
          (set_stood pumps i k new pump there);
    }
