-- A world that its history leads to is sound.
use Rattle.std.proofs.Common.{subst, ◌≡◌, ℕ, true, false, refl, sym, ap, ◌∙◌, arith, length}
use Rattle.std.specs.Prelude.{◌<◌, ◌≤◌, ◌==◌, ◌&&◌, ◌++◌, slice_get, Some}
use Rattle.std.proofs.lemmas.Bool.{eq-eqb, eqb-true, and_parts, and_from}
use Rattle.std.proofs.lemmas.List.Elements.{All-contains}
use Rattle.std.proofs.lemmas.Option.{slice_get_within, get_or_from_slice_get}
use Rattle.sq_schema.specs.TxnValue.{TxnValue}
use Rattle.sq_plan.proofs.Owners.{owner_exists}
use Rattle.sq_moves.specs.declared.segment.TheConstants.{SEGMENT_LIMIT}
use Rattle.sq_moves.specs.declared.recon.Range.{Range}
use Rattle.sq_moves.specs.Moves.{IsMovingRun}
use Rattle.sq_moves.specs.ReconValue.{is_link}
use Rattle.sq_moves.specs.declared.opening.TheConstants.{MAX_CAPACITY}
use Rattle.sq_moves.specs.OpeningValue.{OpeningValue}
use Rattle.sq_moves.specs.Opening.{IsOpening}
use Rattle.sq_store.specs.ChunkValue.{ChunkValue}
use Rattle.sq_exec.specs.CoreValue.{inbox_at}
use Rattle.sq_exec.specs.Location.{location, is_coming_here, route}
use Rattle.sq_exec.specs.Moving.{can_load}
use Rattle.sq_model.specs.Trace.{Trace}
use Rattle.sq_model.specs.Legal.{IsLegal}
use Rattle.sq_model.proofs.Lists.{any_in, Contains-slice_get, list_any-Contains}
use Rattle.sq_model.proofs.Keys.{ends_below}
use Rattle.sq_model.proofs.Waiters.{is_on, waits_for, waits-runner}
use Rattle.sq_transition.specs.WorldValue.{WorldValue, QueueValue, no_queue, core_at, queue_at, link_value, option_list}
use Rattle.sq_transition.specs.Holds.{Holds}
use Rattle.sq_transition.proofs.Locations.{runs_at, location_holds, comes_same, runs_same}
use Rattle.sq_transition.proofs.Loads.{next_note_of}
use Rattle.sq_transition.proofs.Loadable.{loadable}
use Rattle.sq_transition.proofs.Facts.{step_facts}
use Rattle.sq_world.proofs.Found.{found_at}
use Rattle.sq_world.specs.Sound.{IsSoundCore, IsSoundLink, IsSound}

module _ (o : OpeningValue) (t : Trace) (w : WorldValue) (is : IsOpening o) (legal : IsLegal o t) (h : Holds o t w) where
  link_below : (src dst : ℕ) → is_link o.recon.ranges src dst ≡ true → (src < o.old.parts) × (dst < o.old.parts)
  link_below src dst linked =
      let range = any_in (λ (range : Range). (range.src == src) && (range.dst == dst)) o.recon.ranges linked in
      let run : IsMovingRun o.old o.new range.0 = All-contains (IsMovingRun o.old o.new) o.recon.ranges range.0 is.moves.runs range.1 in
      let owned = run.owned range.0.lo (omega arith) run.some in
      let source = owner_exists o.old range.0.lo is.old_plan in
      let destination = owner_exists o.new range.0.lo is.new_plan in
      let ends = and_parts (range.0.src == src) (range.0.dst == dst) range.2 in
      let is_src = eqb-true range.0.src src ends.0 in
      let is_dst = eqb-true range.0.dst dst ends.1 in
      let same = is.parts in
      (omega (arith, owned.0, source, is_src), omega (arith, owned.1, destination, is_dst, same))

  -- a transaction that waits runs at its partition once its rows came
  runs_here : (part : ℕ) → part < o.old.parts → (place : ℕ) (txn : TxnValue) → slice_get (core_at w part).waiting place ≡ Some txn → is_coming_here (core_at w part) txn.root ≡ false → route (core_at w part) txn.root ≡ part
  runs_here part below place txn there come =
      let core = core_at w part in
      let holds = h.partitions.each part below in
      let facts = (step_facts o t is legal).runs.routing in
      let found = location_holds o t part txn.root core facts holds in
      let waits : is_on txn.root core.waiting ≡ true =
      list_any-Contains (λ (other : TxnValue). other.root == txn.root) core.waiting txn (Contains-slice_get core.waiting place txn there) (eq-eqb txn.root txn.root refl) in
      let waits_by = waits_for o t legal part txn.root (ap (is_on txn.root) (sym holds.waiting) ∙ waits) in
      let runner = waits-runner o is t legal part txn.root waits_by (sym (comes_same o t part txn.root core (location core txn.root) holds found) ∙ come) in
      let here = runs_same o t part txn.root core (location core txn.root) facts holds found ∙ ap (runs_at part) runner ∙ eq-eqb part part refl in
      eqb-true (route core txn.root) core.part here ∙ holds.set.part

  sound_core : (part : ℕ) → part < o.old.parts → IsSoundCore w part
  sound_core part below =
      let set = (h.partitions.each part below).set in
      record {
        number = set.part;
        plan = set.plan ∙ sym h.plans.old;
        recon = set.recon ∙ sym h.plans.recon;
        runs = runs_here part below;
      }

  -- a queue goes from one partition to another
  queue_below : (i : ℕ) (queue : QueueValue) → slice_get w.queues i ≡ Some queue → (queue.src < o.old.parts) × (queue.dst < o.old.parts)
  queue_below i queue at =
      link_below queue.src queue.dst (sym (h.links.ends queue.src queue.dst)
      ∙ found_at (λ (other : QueueValue). (other.src == queue.src) && (other.dst == queue.dst)) w.queues i queue at (and_from (queue.src == queue.src) (queue.dst == queue.dst) (eq-eqb queue.src queue.src refl) (eq-eqb queue.dst queue.dst refl)))

  loads_at : (i : ℕ) → i < length w.queues → (queue_at w i).dst < o.old.parts → (chunk : ChunkValue) → (link_value w i).inbox ≡ Some chunk → can_load (core_at w (queue_at w i).dst) (queue_at w i).src chunk ≡ true
  loads_at i within below chunk full =
      let l = link_value w i in
      let holds = h.links.each i within in
      let facts = (step_facts o t is legal).loads in
      loadable o t w is legal h l.src l.dst chunk below
      (record { front = _; notes_are = next_note_of o t l chunk holds (facts.prefix l.src l.dst) full })
      (holds.chunks 0 chunk (ap (λ box. slice_get (option_list box ++ (l.queue ++ option_list l.out.outbox)) 0) full))

  sound_link : (i : ℕ) (queue : QueueValue) → slice_get w.queues i ≡ Some queue → IsSoundLink w queue
  sound_link i queue at =
      let below = queue_below i queue at in
      let here : queue_at w i ≡ queue = get_or_from_slice_get w.queues i queue no_queue at in
      record {
        source = subst (λ p. queue.src < p.parts) (sym h.plans.old) below.0;
        destination = subst (λ p. queue.dst < p.parts) (sym h.plans.old) below.1;
        loads =
            subst (λ (q : QueueValue). (chunk : ChunkValue) → inbox_at (core_at w q.dst) q.src ≡ Some chunk → can_load (core_at w q.dst) q.src chunk ≡ true) here
            (loads_at i (slice_get_within w.queues i queue at) (subst (λ (q : QueueValue). q.dst < o.old.parts) (sym here) below.1));
      }

  pub sound : IsSound w
  sound = record {
    some_part = subst (λ p. 1 ≤ p.parts) (sym h.plans.old) is.old_plan.some_part;
    few_segments = subst (λ r. length r.segments ≤ SEGMENT_LIMIT) (sym h.plans.recon) is.few_segments;
    leader = h.leader.parts ∙ ap (λ p. p.parts) (sym h.plans.old);
    moves = h.leader.moves ∙ sym h.plans.recon;
    cores = h.partitions.count ∙ ap (λ p. p.parts) (sym h.plans.old);
    trees = h.segments.count ∙ ap (λ r. length r.segments) (sym h.plans.recon);
    capacity = subst (λ c. c.capacity ≤ MAX_CAPACITY) (sym h.plans.config) is.small_capacity;
    ends = λ seg range there.
        let below = ends_below o is seg range ((λ i. slice_get (sym h.plans.recon i).segments seg) ∙ there) in
        (subst (λ p. range.src < p.parts) (sym h.plans.old) below.0, subst (λ p. range.dst < p.parts) (sym h.plans.old) below.1);
    parts = λ part below. sound_core part (subst (λ p. part < p.parts) h.plans.old below);
    links = sound_link;
  }
