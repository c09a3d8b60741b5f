-- The nodes of a run in the order of their partitions, and where its links lead.
use Rattle.std.proofs.Common.{◌≡◌, ℕ, ◌+◌, ◌<◌, ◌≤◌, true, ◌==◌, eqb, ◌&&◌, List, length, map, get_or, Some, sym, ap, ◌∙◌, subst, arith, nat_lt}
use Rattle.std.specs.Prelude.{slice_get}
use Rattle.std.specs.List.{list_all, IsDistinct}
use Rattle.std.specs.List.Sorted.{IsPermutation, IsNonDecreasing, IsNonDecreasingBy}
use Rattle.std.proofs.lemmas.Bool.{and_parts, eqb-true, ltb-true, ne_eqb}
use Rattle.std.proofs.lemmas.Bool.Decides.{nat_tests}
use Rattle.std.proofs.lemmas.List.{length-map, same_lists}
use Rattle.std.proofs.lemmas.List.Sorted.{IsPermutation-sym, IsPermutation-map, length_permutation, Contains-permutation}
use Rattle.std.proofs.lemmas.Map.Keys.{IsDistinct-from_apart, IsDistinct-IsPermutation, IsStrictlyIncreasing-from_distinct}
use Rattle.std.proofs.lemmas.Option.{slice_get_within, get_or_from_slice_get}
use Rattle.sq_moves.specs.declared.recon.Range.{Range}
use Rattle.sq_moves.specs.ReconValue.{ReconValue, IsRecon, is_link, stage_on}
use Rattle.sq_exec.specs.CoreValue.{has_ends}
use Rattle.sq_shared.specs.Values.{LinkValue}
use Rattle.sq_model.proofs.Lists.{any_in, Contains-slice_get, slice_get-Contains, list_all-Contains}
use Rattle.sq_node_model.proofs.Lists.{at_map, stands_at}
use Rattle.sq_node_model.proofs.Members.{Contains-map}
use Rattle.sq_shared.specs.Pump.{PumpValue}
use Rattle.sq_node.specs.FabricValue.{FabricValue, IsFabric, ends_of}
use Rattle.sq_node.specs.NodeState.{NodeState, IsNodeOf}
use Rattle.sq_node.specs.Opened.{AreFirstSeats}
use Rattle.sq_gather.specs.GatheringValue.{KeepsCore}
use Rattle.sq_gather.specs.Gathered.{IsPumpOf, PartsDiffer, AreAllOf, InPartOrder, AreByPart}
use Rattle.sq_gather.proofs.InOrder.{at_place}
use Rattle.sq_gather.proofs.Cut.{range_segment}

-- these are all nodes of the run, in the order of their partitions, and all its pumps
pub record AllInOrder (fabric : FabricValue) (nodes : List NodeState) (pumps : List PumpValue) : Type 0 where
  pub seats : AreFirstSeats (length nodes + length pumps) fabric.trees fabric.seats
  pub count : length nodes ≡ fabric.parts
  pub each_node : (part : ℕ) (node : NodeState) → slice_get nodes part ≡ Some node → IsNodeOf fabric node × (node.core.part ≡ part)
  pub each_pump : (i : ℕ) (pump : PumpValue) → slice_get pumps i ≡ Some pump → IsPumpOf fabric pump

abbrev pub part_of : NodeState → ℕ
part_of node = node.core.part

-- the partition of the node at a place
part_at : (nodes : List NodeState) (i : ℕ) (node : NodeState) (d : ℕ) → slice_get nodes i ≡ Some node → get_or (map part_of nodes) i d ≡ node.core.part
part_at nodes i node d there = get_or_from_slice_get (map part_of nodes) i (part_of node) d (at_map part_of nodes i node there)

parts_distinct : (nodes : List NodeState) → PartsDiffer nodes → IsDistinct eqb (map part_of nodes)
parts_distinct nodes apart =
    IsDistinct-from_apart eqb (map part_of nodes)
    (λ i j d before within.
    let count = length-map nodes part_of in
    let one : (node : NodeState) × (slice_get nodes i ≡ Some node) = stands_at nodes i (omega (arith, before, within, count)) in
    let other : (node : NodeState) × (slice_get nodes j ≡ Some node) = stands_at nodes j (omega (arith, within, count)) in
    ne_eqb (get_or (map part_of nodes) i d) (get_or (map part_of nodes) j d)
    (λ same.
    let one_place = apart i j one.0 other.0 one.1 other.1 (sym (part_at nodes i one.0 d one.1) ∙ same ∙ part_at nodes j other.0 d other.1) in
    omega (arith, before, one_place)))

parts_rise : (nodes : List NodeState) → IsNonDecreasingBy part_of nodes → IsNonDecreasing (map part_of nodes)
parts_rise nodes rise i j d upto within =
    let count = length-map nodes part_of in
    let one : (node : NodeState) × (slice_get nodes i ≡ Some node) = stands_at nodes i (omega (arith, upto, within, count)) in
    let other : (node : NodeState) × (slice_get nodes j ≡ Some node) = stands_at nodes j (omega (arith, within, count)) in
    let low : part_of (get_or nodes i one.0) ≤ part_of (get_or nodes j one.0) = rise i j one.0 upto (omega (arith, within, count)) in
    omega (
      arith,
      low,
      part_at nodes i one.0 d one.1,
      part_at nodes j other.0 d other.1,
      ap part_of (get_or_from_slice_get nodes i one.0 one.0 one.1),
      ap part_of (get_or_from_slice_get nodes j other.0 one.0 other.1),
    )

module _ (fabric : FabricValue) (nodes by_part : List NodeState) (pumps : List PumpValue) (all : AreAllOf fabric nodes pumps) (same : IsPermutation nodes by_part) where
  as_many : length by_part ≡ length nodes
  as_many = length_permutation nodes by_part same

  -- each of the sorted nodes is one of the run's
  pub each_of : (part : ℕ) (node : NodeState) → slice_get by_part part ≡ Some node → IsNodeOf fabric node
  each_of part node there =
      let has = Contains-permutation by_part nodes node (IsPermutation-sym nodes by_part same) (Contains-slice_get by_part part node there) in
      all.each_node has.0 node (slice_get-Contains nodes node has)

  module _ (rise : IsNonDecreasingBy part_of by_part) where
    -- sorted by partition, each node is at the place of its partition
    own_place : (part : ℕ) (node : NodeState) → slice_get by_part part ≡ Some node → node.core.part ≡ part
    own_place part node there =
        let parts = map part_of by_part in
        let count = length-map by_part part_of in
        let distinct = IsDistinct-IsPermutation eqb (λ x y. grind (arith, nat_tests)) (map part_of nodes) parts (IsPermutation-map part_of nodes by_part same) (parts_distinct nodes all.apart) in
        let low = slice_get_within by_part part node there in
        sym (part_at by_part part node 0 there)
        ∙ at_place parts (IsStrictlyIncreasing-from_distinct parts (parts_rise by_part rise) distinct)
        (λ i within.
        let at : (node : NodeState) × (slice_get by_part i ≡ Some node) = stands_at by_part i (omega (arith, within, count)) in
        let below = (each_of i at.0 at.1).below in
        omega (arith, below, part_at by_part i at.0 0 at.1, count, as_many, all.count))
        part (omega (arith, low, count))

    pub ordered : AreByPart nodes by_part
    ordered = record { same = same; each = own_place }

    pub all_in_order : AllInOrder fabric by_part pumps
    all_in_order = record {
      seats = subst (λ (count : ℕ). AreFirstSeats (count + length pumps) fabric.trees fabric.seats) (sym as_many) all.seats;
      count = as_many ∙ all.count;
      each_node = λ part node there. (each_of part node there, own_place part node there);
      each_pump = all.each_pump;
    }

-- nodes that are in the order of their partitions are the same list in that order
pub same_in_order : (nodes by_part : List NodeState) → AreByPart nodes by_part → InPartOrder nodes → by_part ≡ nodes
same_in_order nodes by_part ordered order =
    let many = length_permutation nodes by_part ordered.same in
    same_lists by_part nodes many
    (λ part d low.
    let here : (node : NodeState) × (slice_get nodes part ≡ Some node) = stands_at nodes part (omega (arith, low, many)) in
    let has = Contains-permutation nodes by_part here.0 ordered.same (Contains-slice_get nodes part here.0 here.1) in
    let there = slice_get-Contains by_part here.0 has in
    let place : has.0 ≡ part = sym (ordered.each has.0 here.0 there) ∙ order part here.0 here.1 in
    get_or_from_slice_get by_part part here.0 d (subst (λ (n : ℕ). slice_get by_part n ≡ Some here.0) place there)
    ∙ sym (get_or_from_slice_get nodes part here.0 d here.1))

-- each link of the run leads from one of its partitions to another
abbrev pub LinksHaveNodes : FabricValue → Type 0
LinksHaveNodes fabric =
    (i : ℕ) (link : LinkValue) → slice_get fabric.links i ≡ Some link → (link.src < fabric.parts) × (link.dst < fabric.parts)

-- the segments of a node's partition go from one of its partitions to another, and so do the links
pub links_have_nodes : (fabric : FabricValue) (node : NodeState) → IsFabric fabric → IsRecon fabric.recon → IsNodeOf fabric node → KeepsCore node → LinksHaveNodes fabric
links_have_nodes fabric node is recon of kept i link there =
    let ranges = fabric.recon.ranges in
    let runs = (is.links.all (ends_of link)).0 (Contains-map ends_of fabric.links link (Contains-slice_get fabric.links i link there)) in
    let linked : is_link ranges link.src link.dst ≡ true = (and_parts (is_link ranges link.src link.dst) (stage_on fabric.recon link.src link.dst == fabric.stage) runs).0 in
    let range = any_in (λ (range : Range). (range.src == link.src) && (range.dst == link.dst)) ranges linked in
    let ends = and_parts (range.0.src == link.src) (range.0.dst == link.dst) range.2 in
    let segment = range_segment fabric.recon recon range.1.0 range.0 (slice_get-Contains ranges range.0 range.1) in
    let has : has_ends node.core.plan.parts segment.0 ≡ true = list_all-Contains (has_ends node.core.plan.parts) fabric.recon.segments segment.0 (subst (λ (recon : ReconValue). list_all (has_ends node.core.plan.parts) recon.segments ≡ true) of.recon kept.1.ends) segment.1 in
    let below = and_parts (nat_lt segment.0.src node.core.plan.parts) (nat_lt segment.0.dst node.core.plan.parts) has in
    let src = ltb-true segment.0.src node.core.plan.parts below.0 in
    let dst = ltb-true segment.0.dst node.core.plan.parts below.1 in
    let from = eqb-true range.0.src link.src ends.0 in
    let to = eqb-true range.0.dst link.dst ends.1 in (
      omega (arith, src, of.parts, segment.2, from),
      omega (arith, dst, of.parts, segment.3, to),
    )
