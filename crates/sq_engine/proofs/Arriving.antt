-- What arrived of the nodes of an epoch.
use Rattle.std.proofs.Common.{◌≡◌, inl, inr, ℕ, ◌<◌, ◌≤◌, Bool, true, false, true≢false, zero, suc, List, [], ◌∷◌, ◌++◌, length, get_or, take, drop, Option, sym, ap, ◌∙◌, subst, append_assoc, arith}
use Rattle.std.specs.Prelude.{All}
use Rattle.std.proofs.lemmas.Bool.{cases_Bool, and_parts, not-true}
use Rattle.std.specs.Prelude.{◌&&◌, not}
use Rattle.std.specs.Option.{option_map_or}
use Rattle.std.proofs.lemmas.List.{get_or-map, length-map}
use Rattle.std.proofs.lemmas.Option.{slice_get-get_or, slice_get_past}
use Rattle.rtrb.specs.Ring.{sent, received}
use Rattle.sq_node_model.specs.NodeValue.{ReceiptValue}
use Rattle.sq_node.specs.NodeState.{NodeState}
use Rattle.sq_driver.specs.Told.{AllDrivenTelling}
use Rattle.sq_driver.specs.Sent.{SendsOrBreaksOff}
use Rattle.sq_node.specs.FabricValue.{FabricValue}
use Rattle.sq_driver.specs.declared.ring.RingTeller.{RingTeller}
use Rattle.sq_engine.specs.declared.event.Event.{Event}
use Rattle.sq_engine.specs.Events.{arrived_from}
use Rattle.sq_engine.specs.Events as events
use Rattle.sq_engine.specs.Open.{OpenJobsValue}
use Rattle.sq_engine.specs.Clients.{ClientCall}
use Rattle.sq_engine.specs.Rings.{received_at, AreSameRings, Passes}
use Rattle.sq_driver.specs.Told.{nodes_of}
use Rattle.sq_engine.specs.Telling.{Ring, tellers_of, IsNewRing, AreNewRings, ArePaired, HasAllSent, are_whole}
use Rattle.sq_engine.specs.Serving.{Arrives, AllArrive}
use Rattle.sq_engine.proofs.Passing.{received_there, written}
use Rattle.sq_engine.proofs.Resting.{Pair}
use Rattle.sq_engine.proofs.Sending.{SendsMost, sends_most}

some_of : {X : Type 0} (xs : List X) → 0 < length xs → X
some_of [] lt = absurd (omega (arith, lt))
some_of (x ∷ xs) lt = x

-- where no teller broke off none did
none_off : (pairs : List Pair) → are_whole pairs ≡ true → (i : ℕ) (p : Pair) → i < length pairs → (get_or pairs i p).teller.broke_off ≡ false
none_off [] whole i p lt = absurd (omega (arith, lt))
none_off (pair ∷ pairs) whole zero p lt = not-true pair.teller.broke_off (and_parts (not pair.teller.broke_off) (are_whole pairs) whole).0
none_off (pair ∷ pairs) whole (suc i) p lt = none_off pairs (and_parts (not pair.teller.broke_off) (are_whole pairs) whole).1 i p (omega (arith, lt))

-- and otherwise one did
one_off : (pairs : List Pair) → are_whole pairs ≡ false → (i : ℕ) × (i < length pairs) × ((p : Pair) → (get_or pairs i p).teller.broke_off ≡ true)
one_off [] whole = absurd (true≢false whole)
one_off (pair ∷ pairs) whole =
    elim (cases_Bool pair.teller.broke_off) [
      | inl off ↦ (zero, omega arith, λ p. off)
      | inr on ↦
          let rest = one_off pairs (ap (λ (b : Bool). not b && are_whole pairs) (sym on) ∙ whole) in
          (suc rest.0, omega (arith, rest.1), rest.2)
    ]

-- the nodes of pairs that were lent as a slice of a vector are as they were
pub nodes_back : (old lent new : List Pair) (len : ℕ) → lent ≡ old → length lent ≡ len → nodes_of new ≡ nodes_of lent
    → nodes_of (take len (new ++ drop (length new) old)) ≡ nodes_of old
nodes_back old lent new len same whole nodes =
    let node : Pair → NodeState = λ pair. pair.node in
    let count : length new ≡ length lent = sym (length-map new node) ∙ ap length nodes ∙ length-map lent node in
    ap (λ (list : List Pair). nodes_of list) (written old new len (omega (arith, whole, count))) ∙ nodes
    ∙ ap (λ (list : List Pair). nodes_of list) same

-- what holds of all nodes holds of those of the pairs
pub all_in_pairs : (P : NodeState → Type 0) (pairs : List Pair) → All P (nodes_of pairs) → All (λ pair. P pair.node) pairs
all_in_pairs P pairs all i d within =
    let there : i < length (nodes_of pairs) = omega (arith, within, length-map pairs (λ (pair : Pair). pair.node)) in
    subst P (get_or-map (λ (pair : Pair). pair.node) pairs i d d.node within) (all i d.node there)

module _ (fabric : FabricValue) (parts : ℕ) (old new : List Pair) (rings : List Ring) (are : AreNewRings parts (tellers_of old) rings)
    (driven : AllDrivenTelling SendsOrBreaksOff fabric old new) where
  old_count : length old ≡ parts
  old_count = sym (length-map old (λ (pair : Pair). pair.teller)) ∙ are.all_tellers

  teller_at : (i : ℕ) (some : Pair) → i < length old → get_or (tellers_of old) i some.teller ≡ (get_or old i some).teller
  teller_at i some within = get_or-map (λ (pair : Pair). pair.teller) old i some some.teller within

  new_at : (i : ℕ) (some : Pair) (ring : Ring) → i < length old → IsNewRing (get_or old i some).teller (get_or rings i ring)
  new_at i some ring within =
      let below : i < parts = omega (arith, within, old_count) in
      subst (λ (t : RingTeller). IsNewRing t (get_or rings i ring)) (teller_at i some within) (are.each i some.teller ring below)

  most_at : (i : ℕ) (some : Pair) (within : i < length old)
      → SendsMost (get_or old i some).teller (driven.each i some within).told.more (get_or new i some).teller
  most_at i some within =
      let one = driven.each i some within in
      sends_most (get_or old i some).teller one.told.more (get_or new i some).teller one.told.told

  -- the two ends of each ring are a pair still
  pub still_paired : (now : List Ring) → AreSameRings rings now → ArePaired new now
  still_paired now same i p r lt =
      let within : i < length old = omega (arith, lt, driven.count) in
      let there : i < length rings = omega (arith, within, old_count, are.all_rings) in
      let pair = (new_at i p r within).pair in
      let a = (most_at i p within).ring.0 in
      let b = (same.each i r there).0 in
      (b.0 ∙ pair.0 ∙ sym a.0, b.1 ∙ pair.1 ∙ sym a.1, b.2 ∙ pair.2 ∙ sym a.2, b.3 ∙ pair.3 ∙ sym a.3)

  -- `all` are the events `more`, and that receipts were lost if a teller broke off
  module _ {X : Type 0} (becomes : X → ClientCall → X → Type 0) (more all : List Event) (old_jobs : OpenJobsValue) (before : X)
      (new_jobs : OpenJobsValue) (now : List Ring) (after : X)
      (passes : Passes becomes more old_jobs rings before new_jobs now after) (all_sent : HasAllSent new now)
      (same : (part : ℕ) → arrived_from part all ≡ arrived_from part more) (whole_is : events.are_whole all ≡ are_whole new) where
    written_at : (i : ℕ) (some : Pair) (ring : Ring) (d : NodeState) (within : i < length old)
        → (get_or (nodes_of new) i d).receipts
        ≡ (get_or (nodes_of old) i d).receipts ++ arrived_from i all ++ (most_at i some within).missing
    written_at i some ring d within =
        let node : Pair → NodeState = λ pair. pair.node in
        let there : i < length rings = omega (arith, within, old_count, are.all_rings) in
        let later : i < length now = omega (arith, there, passes.rings.count) in
        let still : i < length new = omega (arith, within, driven.count) in
        let fresh = new_at i some ring within in
        let most = most_at i some within in
        let told = (driven.each i some within).told in
        let given = arrived_from i all in
        let came : received_at now i ≡ given = passes.arrived i
        ∙ ap (λ (list : List ReceiptValue). list ++ arrived_from i more)
        (received_there rings i (get_or rings i ring) (slice_get-get_or rings i ring there) ∙ fresh.none_received)
        ∙ sym (same i) in
        let sent_all : sent (get_or new i some).teller.producer ≡ given = sym (all_sent i some ring still)
        ∙ sym (received_there now i (get_or now i ring) (slice_get-get_or now i ring later)) ∙ came in
        let told_is : told.more ≡ given ++ most.missing =
        ap (λ (list : List ReceiptValue). list ++ told.more) (sym fresh.none_sent) ∙ most.sends
        ∙ ap (λ (list : List ReceiptValue). list ++ most.missing) sent_all in
        let was = (get_or old i some).node.receipts in
        ap (λ (n : NodeState). n.receipts) (get_or-map node new i some d still) ∙ told.written
        ∙ ap (λ (list : List ReceiptValue). was ++ list) told_is
        ∙ sym (append_assoc was given most.missing)
        ∙ ap (λ (n : NodeState). n.receipts ++ given ++ most.missing) (sym (get_or-map node old i some d within))

    arrives_at : (i : ℕ) (some : Pair) (ring : Ring) (d : NodeState) (within : i < length old)
        → Arrives (arrived_from i all) (most_at i some within).missing (get_or (nodes_of old) i d) (get_or (nodes_of new) i d)
    arrives_at i some ring d within = record { written = written_at i some ring d within }

    lost_one : events.are_whole all ≡ false → (i : ℕ) × (i < length (nodes_of old))
        × ((d : NodeState) → (missing : List ReceiptValue) × (missing ≡ [] → ⊥)
        × Arrives (arrived_from i all) missing (get_or (nodes_of old) i d) (get_or (nodes_of new) i d))
    lost_one is =
        let off = one_off new (sym whole_is ∙ is) in
        let i = off.0 in
        let still = off.1 in
        let within : i < length old = omega (arith, still, driven.count) in
        let there : i < length (nodes_of old) = omega (arith, within, length-map old (λ (pair : Pair). pair.node)) in
        let some = some_of old (omega (arith, within)) in
        let ring = some_of rings (omega (arith, within, old_count, are.all_rings)) in (
          i,
          there,
          λ d. (
            (most_at i some within).missing,
            (most_at i some within).broken (new_at i some ring within).goes_on (off.2 some),
            arrives_at i some ring d within,
          ),
        )

    none_past : (i : ℕ) → length (nodes_of old) ≤ i → arrived_from i all ≡ []
    none_past i past =
        let none : (list : List Ring) → length list ≡ parts → received_at list i ≡ [] = λ list count.
        let beyond : length list ≤ i = omega (arith, past, count, old_count, length-map old (λ (pair : Pair). pair.node)) in
        ap (λ (o : Option Ring). option_map_or received o []) (slice_get_past list i beyond) in
        same i ∙ sym (passes.arrived i ∙ ap (λ (list : List ReceiptValue). list ++ arrived_from i more) (none rings are.all_rings))
        ∙ none now (passes.rings.count ∙ are.all_rings)

    arrives_each : (i : ℕ) (d : NodeState) → i < length (nodes_of old)
        → (missing : List ReceiptValue) × Arrives (arrived_from i all) missing (get_or (nodes_of old) i d) (get_or (nodes_of new) i d)
        × (events.are_whole all ≡ true → missing ≡ [])
    arrives_each i d lt =
        let within : i < length old = omega (arith, lt, length-map old (λ (pair : Pair). pair.node)) in
        let still : i < length new = omega (arith, within, driven.count) in
        let some = some_of old (omega (arith, within)) in
        let ring = some_of rings (omega (arith, within, old_count, are.all_rings)) in (
          (most_at i some within).missing,
          arrives_at i some ring d within,
          λ is. (most_at i some within).whole (none_off new (sym whole_is ∙ is) i some still),
        )

    pub all_arrive : AllArrive all (nodes_of old) (nodes_of new)
    all_arrive = record { each = arrives_each; no_other = none_past; lost = lost_one }
