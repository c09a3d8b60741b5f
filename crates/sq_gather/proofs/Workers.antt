-- The nodes and the pumps of a run, as its workers take them and as they leave them.
use Rattle.std.proofs.Common.{◌≡◌, ◌≢◌, ⊎_elim, ℕ, ◌+◌, ◌<◌, ◌++◌, ◌∙◌, List, length, get_or, take, drop, Some, refl, sym, ap, ap₂, subst, arith}
use Rattle.std.specs.Prelude.{All, slice_get, slice_set}
use Rattle.std.proofs.Math.Seq.{take-append_seam}
use Rattle.std.proofs.lemmas.Option.{slice_get_within, slice_get-get_or, get_or_from_slice_get}
use Rattle.sq_node_model.proofs.Members.{set_stood}
use Rattle.sq_shared.specs.Seats.{AreSeatsOf}
use Rattle.sq_shared.specs.Pump.{PumpValue}
use Rattle.sq_node.specs.FabricValue.{FabricValue}
use Rattle.sq_node.specs.NodeState.{NodeState, IsNodeOf}
use Rattle.sq_node.specs.Opened.{AreFirstSeats}
use Rattle.sq_gather.specs.Gathered.{PartsDiffer, AreAllOf, InPartOrder}
use Rattle.sq_gather.specs.Reopened.{Stays, AllStay, PumpStays, AllPumpsStay}
use Rattle.sq_gather.proofs.AllOf.{pump_claimed}

-- each node of a run is one of its fabric, and each pump has a seat at each tree
pub nodes_of : (fabric : FabricValue) (nodes : List NodeState) (pumps : List PumpValue) → AreAllOf fabric nodes pumps → All (IsNodeOf fabric) nodes
nodes_of fabric nodes pumps all i d lt = all.each_node i (get_or nodes i d) (slice_get-get_or nodes i d lt)

pub pumps_of : (fabric : FabricValue) (nodes : List NodeState) (pumps : List PumpValue) → AreAllOf fabric nodes pumps → All (λ pump. AreSeatsOf fabric.trees pump.seats) pumps
pumps_of fabric nodes pumps all i d lt = (all.each_pump i (get_or pumps i d) (slice_get-get_or pumps i d lt)).seats

-- what a vector has once all its elements were written through a slice of it
pub written : {X : Type 0} (old new : List X) (len : ℕ) → len ≡ length new → take len (new ++ drop (length new) old) ≡ new
written old new len whole = ap (λ n. take n (new ++ drop (length new) old)) whole ∙ take-append_seam new (drop (length new) old)

-- what is at a place now was something before, and went from there
stood : {X : Type 0} (goes : X → X → Type 0) (old new : List X) → length new ≡ length old → ((i : ℕ) (d : X) → i < length old → goes (get_or old i d) (get_or new i d))
    → (i : ℕ) (now : X) → slice_get new i ≡ Some now → (was : X) × (slice_get old i ≡ Some was) × goes was now
stood goes old new count each i now there =
    let within = slice_get_within new i now there in
    let before : i < length old = omega (arith, within, count) in
    (get_or old i now, slice_get-get_or old i now before, subst (goes (get_or old i now)) (get_or_from_slice_get new i now now there) (each i now before))

-- where a node is replaced by one of its partition, the nodes are of different partitions still
pub set_apart : (nodes : List NodeState) (i : ℕ) (old new : NodeState) → PartsDiffer nodes → slice_get nodes i ≡ Some old → new.core.part ≡ old.core.part → PartsDiffer (slice_set nodes i new)
set_apart nodes i old new apart stands part j k one other one_there other_there same =
    let first = was_at j one one_there in
    let second = was_at k other other_there in
    apart j k first.0 second.0 first.1 second.1 (sym first.2 ∙ same ∙ second.2)
  where
    was_at : (k : ℕ) (node : NodeState) → slice_get (slice_set nodes i new) k ≡ Some node → (was : NodeState) × (slice_get nodes k ≡ Some was) × (node.core.part ≡ was.core.part)
    was_at k node there =
        ⊎_elim
        (λ (here : (k ≡ i) × (new ≡ node)). (old, ap (slice_get nodes) here.0 ∙ stands, ap (λ (n : NodeState). n.core.part) (sym here.1) ∙ part))
        (λ (other : (k ≢ i) × (slice_get nodes k ≡ Some node)). (node, other.1, refl))
        (set_stood nodes i k new node there)

module _ (fabric : FabricValue) where
  -- nodes stay, each by its own, and so do pumps
  pub each_stays : (old new : List NodeState) → length new ≡ length old → ((i : ℕ) (d : NodeState) → i < length old → Stays fabric (get_or old i d) (get_or new i d)) → AllStay fabric old new
  each_stays old new count each = record { count = count; each = stood (Stays fabric) old new count each }

  pub each_pump_stays : (old new : List PumpValue) → length new ≡ length old → ((i : ℕ) (d : PumpValue) → i < length old → PumpStays fabric (get_or old i d) (get_or new i d)) → AllPumpsStay fabric old new
  each_pump_stays old new count each = record { count = count; each = stood (PumpStays fabric) old new count each }

  -- nodes that stay are of different partitions still
  pub still_apart : (old new : List NodeState) → AllStay fabric old new → PartsDiffer old → PartsDiffer new
  still_apart old new nodes apart i j one other one_there other_there same =
      let was = nodes.each i one one_there in
      let before = nodes.each j other other_there in
      apart i j was.0 before.0 was.1 before.1 (sym was.2.part ∙ same ∙ before.2.part)

  -- and in the order of their partitions still
  pub still_in_order : (old new : List NodeState) → AllStay fabric old new → InPartOrder old → InPartOrder new
  still_in_order old new nodes order part node there =
      let was = nodes.each part node there in
      was.2.part ∙ order part was.0 was.1

  -- they are all nodes and pumps of the run still
  pub still_all : (old new : List NodeState) (before after : List PumpValue) → AreAllOf fabric old before → AllStay fabric old new → AllPumpsStay fabric before after → AreAllOf fabric new after
  still_all old new before after whole nodes pumps = record {
    seats = subst (λ n. AreFirstSeats n fabric.trees fabric.seats) (ap₂ (λ (a b : ℕ). a + b) (sym nodes.count) (sym pumps.count)) whole.seats;
    count = nodes.count ∙ whole.count;
    apart = still_apart old new nodes whole.apart;
    each_node = λ part node there. (nodes.each part node there).2.of;
    each_pump = λ i pump there.
        let was = pumps.each i pump there in
        pump_claimed fabric was.0 pump (whole.each_pump i was.0 was.1) was.2.of was.2.claims;
  }
