-- The results of the steps of the links.
use Rattle.std.proofs.Common.{◌≡◌, ℕ, ◌<◌, ◌≤◌, ◌⊎◌, Bool, true, false, true≢false, List, [], ◌∷◌, ◌++◌, map, length, get_or, set, Bor, Option, Some, None, ok_or, Result, Ok, Err, refl, sym, ap, ◌∙◌, subst, inl, inr, arith}
use Rattle.std.specs.Prelude.{IsTrue, ◌==◌, ◌&&◌, not, nat_le, is_some, is_none, if◌then◌else◌, slice_set, option_map}
use Rattle.std.specs.Option.{option_copied}
use Rattle.std.proofs.lemmas.Bool.{and_parts, eqb-true, le-leb, lt-leb, cases_lt}
use Rattle.std.proofs.lemmas.List.{get_or_default, get_or_past, get_or-set_same, set-get_or, length-map}
use Rattle.std.proofs.lemmas.List.Quantifiers.{position-Some}
use Rattle.std.proofs.lemmas.Option.{slice_get-get_or}
use Rattle.sq_plan.specs.PlanValue.{PlanValue}
use Rattle.sq_moves.specs.ReconValue.{stage_on}
use Rattle.sq_store.specs.declared.chunk.Note.{Note}
use Rattle.sq_store.specs.ChunkValue.{ChunkValue}
use Rattle.sq_store.specs.StoreValue.{StoreValue, families_between}
use Rattle.sq_exec.specs.declared.fault.CutFault.{CutFault}
use Rattle.sq_exec.specs.declared.fault.CutFault.TheVariants as cut
use Rattle.sq_exec.specs.declared.fault.LoadFault.{LoadFault}
use Rattle.sq_exec.specs.declared.fault.LoadFault.TheVariants as load
use Rattle.sq_exec.specs.Work.{next_work}
use Rattle.sq_exec.specs.OutLink.{OutLinkValue, new_out_link, cut_fault}
use Rattle.sq_exec.specs.CoreValue.{CoreValue, PartCoreValue, out_at, with_out, inbox_at, with_inbox}
use Rattle.sq_exec.specs.Moving.{CutsFor, LoadsFrom, can_load, load_fault, loaded_core}
use Rattle.sq_model.specs.declared.step.Step.TheVariants.{Cut, Load}
use Rattle.sq_model.specs.declared.answer.Answer.TheVariants.{Done, WasCut, WasLoaded, Refused}
use Rattle.sq_model.specs.declared.answer.Refusal.TheVariants.{NotMoving, NoSuchLink, OutboxEmpty, OutboxFull, LinkFull, LinkEmpty, InboxFull}
use Rattle.sq_model.specs.declared.answer.Refusal.{Refusal}
use Rattle.sq_model.specs.Leader.{is_moving_phase}
use Rattle.sq_transition.specs.WorldValue.{WorldValue, running_stage, QueueValue, no_queue, core_at, with_core, link_index, queue_at, with_queue}
use Rattle.sq_transition.specs.Leading.{phase_of}
use Rattle.sq_transition.specs.LeaderResults.{StepResult, refuse}
use Rattle.sq_transition.specs.LinkResults.{result_at_link, if_link, sent_core, push_chunk, push_result, pop_chunk, pop_result, cut_work, cut_at, cut_result, load_chunk, load_result}
use Rattle.sq_transition.specs.Transition.{IsResult}
use Rattle.sq_world.specs.Results.{refuse_if, link_place, running_link, cut_refused, load_refused, families_of}
use Rattle.sq_world.specs.declared.state.links.LinkPlace.{LinkPlace}
use Rattle.sq_world.specs.Queue.{IsPopped}
use Rattle.sq_world.specs.Sound.{IsSound, IsSoundLink}
use Rattle.sq_world.proofs.Guards.{nothing_wrong, goes_on}
use Rattle.sq_world.proofs.Cores.{core_of, core_read, core_written, core_kept}

-- the running stage has the link, while the move is under way
pub record IsRunning (w : WorldValue) (src dst : ℕ) (link : LinkPlace) : Type 0 where
  pub moving : not (is_moving_phase (phase_of w.leader)) ≡ false
  pub runs : not (stage_on w.recon src dst == running_stage w) ≡ false
  pub index : Some link.at ≡ link_index w src dst
  pub starts : link.src ≡ src
  pub leads : link.dst ≡ dst

link_runs : (w : WorldValue) (src dst : ℕ) (link : LinkPlace) (done : Unit {0}) → Ok done ≡ refuse_if (not (is_moving_phase (phase_of w.leader))) NotMoving → Ok link ≡ running_link w src dst → IsRunning w src dst link
link_runs w src dst link done moving found =
    let runs = by_stage (not (stage_on w.recon src dst == running_stage w)) (link_index w src dst) found in
    record { moving = nothing_wrong (not (is_moving_phase (phase_of w.leader))) NotMoving done tt moving; runs = runs.0; index = runs.1; starts = runs.2; leads = runs.3 }
  where
    by_stage : (other : Bool) (index : Option ℕ) → Ok link ≡ (let r : Result LinkPlace Refusal = if other then Err NoSuchLink else ok_or (option_map (link_place src dst) index) NoSuchLink in r)
        → (other ≡ false) × (Some link.at ≡ index) × (link.src ≡ src) × (link.dst ≡ dst)
    by_stage true index is = absurd cc
    by_stage false None is = absurd cc
    by_stage false (Some i) is =
        let same : link ≡ link_place src dst i = cc in
        (refl, ap (λ (l : LinkPlace). Some l.at) same, ap (λ (l : LinkPlace). l.src) same, ap (λ (l : LinkPlace). l.dst) same)

-- what was found has the ends that were sought
pub ends_found : (w : WorldValue) (src dst at : ℕ) (queue : QueueValue) → Some at ≡ link_index w src dst → queue ≡ get_or w.queues at queue → (queue.src ≡ src) × (queue.dst ≡ dst)
ends_found w src dst at queue found is =
    let place = position-Some (λ (other : QueueValue). (other.src == src) && (other.dst == dst)) w.queues at queue (sym found) in
    let ends = and_parts (queue.src == src) (queue.dst == dst) (ap (λ (other : QueueValue). (other.src == src) && (other.dst == dst)) is ∙ place.1) in
    (eqb-true queue.src src ends.0, eqb-true queue.dst dst ends.1)

-- a link that is there is one of the running stage just where its stage runs
pub link_of_stage : (w : WorldValue) (src dst : ℕ) (link : LinkPlace) (runs : Bool) → (stage_on w.recon src dst == running_stage w) ≡ runs → Some link.at ≡ link_index w src dst
    → link.src ≡ src → link.dst ≡ dst → (let r : Result LinkPlace Refusal = if runs then Ok link else Err NoSuchLink in r) ≡ running_link w src dst
link_of_stage w src dst link true is found starts leads =
    (λ i. let r : Result LinkPlace Refusal = Ok (record { at = link.at; src = starts i; dst = leads i }) in r)
    ∙ (λ i. let r : Result LinkPlace Refusal = if not (sym is i) then Err NoSuchLink else ok_or (option_map (link_place src dst) (found i)) NoSuchLink in r)
link_of_stage w src dst link false is found starts leads =
    λ i. let r : Result LinkPlace Refusal = if not (sym is i) then Err NoSuchLink else ok_or (option_map (link_place src dst) (found i)) NoSuchLink in r

-- a link that was found by its ends, and its queue
pub record IsLinkHere (w : WorldValue) (src dst at : ℕ) : Type 0 where
  pub within : at < length w.queues
  pub starts : (queue_at w at).src ≡ src
  pub leads : (queue_at w at).dst ≡ dst
  pub sound : IsSoundLink w (queue_at w at)
  pub source : src < w.old.parts
  pub destination : dst < w.old.parts

link_here : (w : WorldValue) (src dst : ℕ) (link : LinkPlace) → IsSound w → IsRunning w src dst link → IsLinkHere w src dst link.at
link_here w src dst link sound running =
    let place = position-Some (λ (other : QueueValue). (other.src == src) && (other.dst == dst)) w.queues link.at no_queue (sym running.index) in
    let ends = and_parts ((queue_at w link.at).src == src) ((queue_at w link.at).dst == dst) place.1 in
    let starts = eqb-true (queue_at w link.at).src src ends.0 in
    let leads = eqb-true (queue_at w link.at).dst dst ends.1 in
    let is_sound = sound.links link.at (queue_at w link.at) (slice_get-get_or w.queues link.at no_queue place.0) in
    record {
      within = place.0;
      starts = starts;
      leads = leads;
      sound = is_sound;
      source = omega (arith, is_sound.source, starts);
      destination = omega (arith, is_sound.destination, leads);
    }

-- where there is the link the step continues
at_link : (w : WorldValue) (src dst : ℕ) (link : LinkPlace) (result : ℕ → StepResult) → IsRunning w src dst link → result link.at ≡ if_link w src dst result
at_link w src dst link result running =
    let here = result_at_link w result (link_index w src dst) in
    ap (result_at_link w result) running.index
    ∙ goes_on (not (stage_on w.recon src dst == running_stage w)) NoSuchLink w here running.runs
    ∙ goes_on (not (is_moving_phase (phase_of w.leader))) NotMoving w (if not (stage_on w.recon src dst == running_stage w) then refuse w NoSuchLink else here) running.moving

-- what a reference shows of what it was read from
copied_some : (r : Option (Bor ChunkValue)) (o : Option ChunkValue) (b : Bool) → option_copied r ≡ o → is_some r ≡ b → is_some o ≡ b
copied_some None o b is tells = ap is_some (sym is) ∙ tells
copied_some (Some x) o b is tells = ap is_some (sym is) ∙ tells

some_of : {X : Type 0} (o : Option X) → is_some o ≡ true → (x : X) × (o ≡ Some x)
some_of None is = absurd cc
some_of (Some x) is = (x, refl)

none_of : {X : Type 0} (o : Option X) → is_some o ≡ false → o ≡ None
none_of None is = refl
none_of (Some x) is = cc

-- the partition at an end of a link
pub partition_exists : (w : WorldValue) (parts : List PartCoreValue) (number from : ℕ) → map core_of parts ≡ w.cores → IsSound w → number < w.old.parts → from ≡ number → from < length parts
partition_exists w parts number from are sound lt is = omega (arith, sound.cores, length-map parts core_of, ap length are)

end_read : (w : WorldValue) (parts : List PartCoreValue) (number from : ℕ) (part : PartCoreValue) → map core_of parts ≡ w.cores → IsSound w → number < w.old.parts → from ≡ number
    → part ≡ get_or parts from part → part.core ≡ core_at w number
end_read w parts number from part are sound lt is part_is = core_read w parts are from part (omega (arith, sound.cores)) part_is ∙ ap (core_at w) is

-- there is the end of a link that has work
out_exists : (core : CoreValue) (dst place : ℕ) → next_work (out_at core dst).work ≡ Some place → dst < length core.outs
out_exists core dst place next = by_place (cases_lt dst (length core.outs))
  where
    by_place : (dst < length core.outs) ⊎ (length core.outs ≤ dst) → dst < length core.outs
    by_place (inl lt) = lt
    by_place (inr past) =
        let none : None ≡ Some place = sym (ap (λ (out : OutLinkValue). next_work out.work) (get_or_past core.outs dst new_out_link past)) ∙ next in
        absurd cc

-- a chunk that was cut lies in the outbox
families_cut : (core : CoreValue) (dst : ℕ) (note : Note) (new : CoreValue) → CutsFor core dst note new → families_of (out_at new dst).outbox ≡ length (families_between core.store note.lo note.hi)
families_cut core dst note new cuts =
    let out_is : out_at new dst ≡ cuts.out =
    ap (λ (c : CoreValue). out_at c dst) cuts.after ∙ get_or-set_same core.outs dst cuts.out new_out_link (out_exists core dst cuts.cut.place cuts.cut.next) in
    ap (λ (out : OutLinkValue). families_of out.outbox) out_is
    ∙ subst (λ (all : Note × (OutLinkValue × StoreValue)). families_of all.1.0.outbox ≡ length (families_between core.store all.0.lo all.0.hi)) (sym cuts.cut.cut) refl

-- a Cut of a chunk
cut_there : (w : WorldValue) (src dst : ℕ) (note : Note) (new : CoreValue) → CutsFor (core_at w src) dst note new
    → (WasCut note (length (families_between (core_at w src).store note.lo note.hi)), with_core w src new) ≡ cut_at w src dst
cut_there w src dst note new cuts =
    let core = core_at w src in
    let out = out_at core dst in
    let goes : cut_at w src dst ≡ cut_work w src dst (Some cuts.cut.place) =
    ap (λ (full : Bool). if full then refuse w OutboxFull else cut_work w src dst (next_work out.work)) cuts.cut.empty ∙ ap (cut_work w src dst) cuts.cut.next in
    ap (λ (c : CoreValue). (WasCut note (length (families_between core.store note.lo note.hi)), with_core w src c)) cuts.after
    ∙ ap (λ (all : Note × (OutLinkValue × StoreValue)). (WasCut all.0 (length (families_between core.store all.0.lo all.0.hi)), with_core w src (record (with_out core dst all.1.0) { store = all.1.1 }))) cuts.cut.cut
    ∙ sym goes

cut_refused_by : (w : WorldValue) (src dst : ℕ) (full : Bool) (next : Option ℕ) (fault : CutFault) → fault ≡ (if full then cut.OutboxFull else if is_none next then cut.NothingToCut else cut.Memory)
    → IsResult (Cut src dst) w (if full then refuse w OutboxFull else cut_work w src dst next) (Refused (cut_refused fault)) w
cut_refused_by w src dst true next fault is = inl (ap (λ (f : CutFault). (Refused (cut_refused f), w)) is)
cut_refused_by w src dst false None fault is = inl (ap (λ (f : CutFault). (Refused (cut_refused f), w)) is)
cut_refused_by w src dst false (Some place) fault is = inr (ap (λ (f : CutFault). Refused (cut_refused f)) is, refl, refl)

load_refused_by : (w : WorldValue) (src dst : ℕ) (box : Option ChunkValue) (fault : LoadFault) → fault ≡ (if is_some box then load.Memory else load.InboxEmpty)
    → IsResult (Load src dst) w (load_chunk w src dst box) (Refused (load_refused fault)) w
load_refused_by w src dst None fault is = inl (ap (λ (f : LoadFault). (Refused (load_refused f), w)) is)
load_refused_by w src dst (Some chunk) fault is = inr (ap (λ (f : LoadFault). Refused (load_refused f)) is, refl, refl)

-- a link that a step found, and one of its ends: the number of the partition there, and its place
pub record AtEnd (w : WorldValue) (parts : List PartCoreValue) (src dst : ℕ) (link : LinkPlace) (number from : ℕ) : Type 0 where
  pub are : map core_of parts ≡ w.cores
  pub sound : IsSound w
  pub running : IsRunning w src dst link
  pub from_is : from ≡ number
  pub below : number < w.old.parts

-- the same, of the world as it was seen
end_at : {seen w : WorldValue} {parts : List PartCoreValue} {src dst number from : ℕ} {link : LinkPlace} → seen ≡ w → map core_of parts ≡ seen.cores → IsSound w → IsRunning w src dst link
    → from ≡ number → number < w.old.parts → AtEnd w parts src dst link number from
end_at same are sound running from_is below = assumption (are ∙ ap (λ (v : WorldValue). v.cores) same, sound, running, from_is, below)

pub source_end : {seen w : WorldValue} {parts : List PartCoreValue} {src dst from : ℕ} {link : LinkPlace} {done : Unit {0}} → seen ≡ w → map core_of parts ≡ seen.cores → IsSound w
    → Ok done ≡ refuse_if (not (is_moving_phase (phase_of w.leader))) NotMoving → Ok link ≡ running_link w src dst → from ≡ link.src → AtEnd w parts src dst link src from
source_end {w = w} {src = src} {dst = dst} {link = link} {done = done} same are sound moving found from_is =
    let running = link_runs w src dst link done moving found in
    end_at same are sound running (from_is ∙ running.starts) (link_here w src dst link sound running).source

pub destination_end : {seen w : WorldValue} {parts : List PartCoreValue} {src dst from : ℕ} {link : LinkPlace} {done : Unit {0}} → seen ≡ w → map core_of parts ≡ seen.cores → IsSound w
    → Ok done ≡ refuse_if (not (is_moving_phase (phase_of w.leader))) NotMoving → Ok link ≡ running_link w src dst → from ≡ link.dst → AtEnd w parts src dst link dst from
destination_end {w = w} {src = src} {dst = dst} {link = link} {done = done} same are sound moving found from_is =
    let running = link_runs w src dst link done moving found in
    end_at same are sound running (from_is ∙ running.leads) (link_here w src dst link sound running).destination

-- the queue of the link, and the partition at the end
module _ {w : WorldValue} {parts : List PartCoreValue} {src dst number from : ℕ} {link : LinkPlace} (end : AtEnd w parts src dst link number from) where
  there : IsLinkHere w src dst link.at
  there = link_here w src dst link end.sound end.running

  queue_of : (queue : QueueValue) → queue ≡ get_or w.queues link.at queue → queue ≡ queue_at w link.at
  queue_of queue is = is ∙ get_or_default w.queues link.at queue no_queue there.within

  pub end_exists : from < length parts
  end_exists = partition_exists w parts number from end.are end.sound end.below end.from_is

  end_core : (one : PartCoreValue) → one ≡ get_or parts from one → one.core ≡ core_at w number
  end_core one is = end_read w parts number from one end.are end.sound end.below end.from_is is

-- a link, and the partition at its source
module _ {w : WorldValue} {parts : List PartCoreValue} {src dst from : ℕ} {link : LinkPlace} (end : AtEnd w parts src dst link src from) where
  out_there : (core : CoreValue) → out_at core link.dst ≡ out_at core dst
  out_there core = ap (out_at core) end.running.leads

  -- the partition, as it was read
  module _ {part : PartCoreValue} (part_is : part ≡ get_or parts from part) where
    source_core : part.core ≡ core_at w src
    source_core = end_core end part part_is

    outbox_there : (out_at part.core link.dst).outbox ≡ (out_at (core_at w src) dst).outbox
    outbox_there = ap (λ (core : CoreValue). (out_at core link.dst).outbox) source_core ∙ ap (λ (out : OutLinkValue). out.outbox) (out_there (core_at w src))

    pushes : push_chunk w src dst link.at (out_at part.core link.dst).outbox ≡ push_result w src dst
    pushes = ap (push_chunk w src dst link.at) outbox_there ∙ at_link w src dst link (λ i. push_chunk w src dst i (out_at (core_at w src) dst).outbox) end.running

    pub push_empty : (read : Option (Bor ChunkValue)) → option_copied read ≡ (out_at part.core link.dst).outbox → is_some read ≡ false → (Refused OutboxEmpty, w) ≡ push_result w src dst
    push_empty read is none = ap (push_chunk w src dst link.at) (sym (none_of (out_at part.core link.dst).outbox (copied_some read (out_at part.core link.dst).outbox false is none))) ∙ pushes

    pub push_full : (read : Option (Bor ChunkValue)) (queue : QueueValue) → option_copied read ≡ (out_at part.core link.dst).outbox → is_some read ≡ true → queue ≡ get_or w.queues link.at queue
        → w.config.capacity ≤ length queue.chunks → (Refused LinkFull, w) ≡ push_result w src dst
    push_full read queue is some queue_is full =
        let chunk = some_of (out_at part.core link.dst).outbox (copied_some read (out_at part.core link.dst).outbox true is some) in
        let is_full : nat_le w.config.capacity (length (queue_at w link.at).chunks) ≡ true = sym (ap (λ (q : QueueValue). nat_le w.config.capacity (length q.chunks)) (queue_of end queue queue_is)) ∙ le-leb w.config.capacity (length queue.chunks) full in
        sym (ap (λ (b : Bool). if b then refuse w LinkFull else (Done, with_queue (with_core w src (sent_core (core_at w src) dst)) link.at ((queue_at w link.at).chunks ++ chunk.0 ∷ []))) is_full)
        ∙ ap (push_chunk w src dst link.at) (sym chunk.1) ∙ pushes

    -- the outbox isn't empty that was read before
    pub push_has : (before : PartCoreValue) (read : Option (Bor ChunkValue)) → before ≡ get_or parts from before → option_copied read ≡ (out_at before.core link.dst).outbox → is_some read ≡ true
        → None ≡ (out_at part.core link.dst).outbox → ⊥
    push_has before read before_is is some none =
        let same : before.core ≡ part.core = end_core end before before_is ∙ sym source_core in
        let has : is_some (out_at part.core link.dst).outbox ≡ true = ap (λ (core : CoreValue). is_some (out_at core link.dst).outbox) (sym same) ∙ copied_some read (out_at before.core link.dst).outbox true is some in
        true≢false (sym has ∙ ap is_some (sym none))

    pub push_done : (chunk : ChunkValue) (after : PartCoreValue) (queue other queue_after : QueueValue) → Some chunk ≡ (out_at part.core link.dst).outbox → queue ≡ get_or w.queues link.at queue
        → length queue.chunks < w.config.capacity → after.core ≡ sent_core part.core link.dst → other ≡ get_or w.queues link.at other → queue_after ≡ record other { chunks = other.chunks ++ chunk ∷ [] }
        → (Done, record w { cores = map core_of (set parts from after); queues = set w.queues link.at queue_after }) ≡ push_result w src dst
    push_done chunk after queue other queue_after has queue_is room after_is other_is queue_after_is =
        let core = core_at w src in
        let sent : after.core ≡ sent_core core dst =
        after_is ∙ ap (λ (c : CoreValue). sent_core c link.dst) source_core ∙ ap (sent_core core) end.running.leads in
        let cores : map core_of (set parts from after) ≡ slice_set w.cores src (sent_core core dst) =
        core_written w parts end.are from after (sent_core core dst) sent ∙ ap (λ (n : ℕ). slice_set w.cores n (sent_core core dst)) end.from_is in
        let queues : set w.queues link.at queue_after ≡ slice_set w.queues link.at (record (queue_at w link.at) { chunks = (queue_at w link.at).chunks ++ chunk ∷ [] }) =
        ap (set w.queues link.at) (queue_after_is ∙ ap (λ (q : QueueValue). record q { chunks = q.chunks ++ chunk ∷ [] }) (queue_of end other other_is)) in
        let has_room : nat_le w.config.capacity (length (queue_at w link.at).chunks) ≡ false = sym (ap (λ (q : QueueValue). nat_le w.config.capacity (length q.chunks)) (queue_of end queue queue_is)) ∙ lt-leb w.config.capacity (length queue.chunks) room in
        let after_all : StepResult = (Done, with_queue (with_core w src (sent_core core dst)) link.at ((queue_at w link.at).chunks ++ chunk ∷ [])) in
        ap (λ (v : WorldValue). (Done, v)) (λ k. record w { cores = cores k; queues = queues k })
        ∙ goes_on (nat_le w.config.capacity (length (queue_at w link.at).chunks)) LinkFull w after_all has_room
        ∙ ap (push_chunk w src dst link.at) has ∙ pushes

    cuts : cut_at w src dst ≡ cut_result w src dst
    cuts = at_link w src dst link (λ _. cut_at w src dst) end.running

    pub cut_done : (note : Note) (families : ℕ) (after : PartCoreValue) → CutsFor part.core link.dst note after.core → families ≡ families_of (out_at after.core link.dst).outbox
        → (WasCut note families, record w { cores = map core_of (set parts from after) }) ≡ cut_result w src dst
    cut_done note families after was_cut count =
        let core = core_at w src in
        let here : CutsFor core dst note after.core = subst (λ (both : CoreValue × ℕ). CutsFor both.0 both.1 note after.core) (λ k. (source_core k, end.running.leads k)) was_cut in
        let cores : map core_of (set parts from after) ≡ slice_set w.cores src after.core =
        core_written w parts end.are from after after.core refl ∙ ap (λ (n : ℕ). slice_set w.cores n after.core) end.from_is in
        let held : families ≡ length (families_between core.store note.lo note.hi) = count ∙ ap (λ (d : ℕ). families_of (out_at after.core d).outbox) end.running.leads ∙ families_cut core dst note after.core here in
        ap (λ (n : ℕ). (WasCut note n, record w { cores = map core_of (set parts from after) })) held
        ∙ ap (λ (v : WorldValue). (WasCut note (length (families_between core.store note.lo note.hi)), v)) (λ k. record w { cores = cores k })
        ∙ cut_there w src dst note after.core here ∙ cuts

    pub cut_fails : (fault : CutFault) (after : PartCoreValue) → fault ≡ cut_fault (out_at part.core link.dst) → after.core ≡ part.core
        → IsResult (Cut src dst) w (cut_result w src dst) (Refused (cut_refused fault)) (record w { cores = map core_of (set parts from after) })
    cut_fails fault after why kept =
        let out = out_at (core_at w src) dst in
        let same : record w { cores = map core_of (set parts from after) } ≡ w = λ k. record w { cores = core_kept w parts end.are from part after part_is kept k } in
        let fault_is : fault ≡ cut_fault out = why ∙ ap (λ (core : CoreValue). cut_fault (out_at core link.dst)) source_core ∙ ap cut_fault (out_there (core_at w src)) in
        subst (λ (v : WorldValue). IsResult (Cut src dst) w (cut_result w src dst) (Refused (cut_refused fault)) v) (sym same)
        (subst (λ (r : StepResult). IsResult (Cut src dst) w r (Refused (cut_refused fault)) w) cuts (cut_refused_by w src dst (is_some out.outbox) (next_work out.work) fault fault_is))

-- a link, and the partition at its destination
module _ {w : WorldValue} {parts : List PartCoreValue} {src dst from : ℕ} {link : LinkPlace} (end : AtEnd w parts src dst link dst from) where
  inbox_there : (core : CoreValue) → core ≡ core_at w dst → inbox_at core link.src ≡ inbox_at (core_at w dst) src
  inbox_there core is = ap (λ (c : CoreValue). inbox_at c link.src) is ∙ ap (inbox_at (core_at w dst)) end.running.starts

  pops : (if is_some (inbox_at (core_at w dst) src) then refuse w InboxFull else pop_chunk w src dst link.at (queue_at w link.at).chunks) ≡ pop_result w src dst
  pops = at_link w src dst link (λ i. if is_some (inbox_at (core_at w dst) src) then refuse w InboxFull else pop_chunk w src dst i (queue_at w i).chunks) end.running

  -- whether a chunk lies in the inbox, as it was read
  inbox_has : (before : PartCoreValue) (read : Option (Bor ChunkValue)) (b : Bool) → before ≡ get_or parts from before → option_copied read ≡ inbox_at before.core link.src → is_some read ≡ b
      → is_some (inbox_at (core_at w dst) src) ≡ b
  inbox_has before read b before_is is tells = ap is_some (sym (inbox_there before.core (end_core end before before_is))) ∙ copied_some read (inbox_at before.core link.src) b is tells

  -- the partition, as it was read
  module _ {part : PartCoreValue} (part_is : part ≡ get_or parts from part) where
    destination_core : part.core ≡ core_at w dst
    destination_core = end_core end part part_is

    pub pop_full : (read : Option (Bor ChunkValue)) → option_copied read ≡ inbox_at part.core link.src → is_some read ≡ true → (Refused InboxFull, w) ≡ pop_result w src dst
    pop_full read is full =
        sym (ap (λ (b : Bool). if b then refuse w InboxFull else pop_chunk w src dst link.at (queue_at w link.at).chunks) (inbox_has part read true part_is is full)) ∙ pops

    pops_chunk : (chunks : List ChunkValue) (read : Option (Bor ChunkValue)) (before : PartCoreValue) → before ≡ get_or parts from before → option_copied read ≡ inbox_at before.core link.src → is_some read ≡ false
        → (queue_at w link.at).chunks ≡ chunks → pop_chunk w src dst link.at chunks ≡ pop_result w src dst
    pops_chunk chunks read before before_is is empty chunks_are =
        ap (pop_chunk w src dst link.at) (sym chunks_are)
        ∙ sym (ap (λ (b : Bool). if b then refuse w InboxFull else pop_chunk w src dst link.at (queue_at w link.at).chunks) (inbox_has before read false before_is is empty)) ∙ pops

    pub pop_empty : (read : Option (Bor ChunkValue)) (other after : QueueValue) → option_copied read ≡ inbox_at part.core link.src → is_some read ≡ false → other ≡ get_or w.queues link.at other → IsPopped other None after
        → (Refused LinkEmpty, record w { queues = set w.queues link.at after }) ≡ pop_result w src dst
    pop_empty read other after is empty other_is popped =
        let none : (queue_at w link.at).chunks ≡ [] = ap (λ (q : QueueValue). q.chunks) (sym (queue_of end other other_is)) ∙ popped.0 in
        let queues : set w.queues link.at after ≡ w.queues = ap (set w.queues link.at) (popped.1 ∙ queue_of end other other_is) ∙ set-get_or w.queues link.at no_queue in
        ap (λ (v : WorldValue). (Refused LinkEmpty, v)) (λ k. record w { queues = queues k }) ∙ pops_chunk [] read part part_is is empty none

    -- there is a place for a chunk from the source
    pub inbox_exists : (before : PartCoreValue) → before ≡ get_or parts from before → length before.core.inboxes ≡ before.core.plan.parts → link.src < length part.core.inboxes
    inbox_exists before before_is places =
        let same : before.core ≡ part.core = end_core end before before_is ∙ sym destination_core in
        let places_here : length part.core.inboxes ≡ part.core.plan.parts = subst (λ (core : CoreValue). length core.inboxes ≡ core.plan.parts) same places in
        let plan : part.core.plan ≡ w.old = ap (λ (core : CoreValue). core.plan) destination_core ∙ (end.sound.parts dst (there end).destination).plan in
        let parts_are : part.core.plan.parts ≡ w.old.parts = ap (λ (p : PlanValue). p.parts) plan in
        omega (arith, places_here, parts_are, (there end).source, end.running.starts)

    -- the inbox isn't full that was read empty before
    pub inbox_empty : (before : PartCoreValue) (read : Option (Bor ChunkValue)) → before ≡ get_or parts from before → option_copied read ≡ inbox_at before.core link.src → is_some read ≡ false
        → is_some (inbox_at part.core link.src) ≡ true → ⊥
    inbox_empty before read before_is is empty full =
        true≢false (sym full ∙ ap is_some (inbox_there part.core destination_core) ∙ inbox_has before read false before_is is empty)

    pub pop_done : (chunk : ChunkValue) (read : Option (Bor ChunkValue)) (before after : PartCoreValue) (other queue_after : QueueValue) → before ≡ get_or parts from before → option_copied read ≡ inbox_at before.core link.src → is_some read ≡ false
        → other ≡ get_or w.queues link.at other → IsPopped other (Some chunk) queue_after → after.core ≡ with_inbox part.core link.src (Some chunk)
        → (Done, record w { cores = map core_of (set parts from after); queues = set w.queues link.at queue_after }) ≡ pop_result w src dst
    pop_done chunk read before after other queue_after before_is is empty other_is popped after_is =
        let core = core_at w dst in
        let filled : after.core ≡ with_inbox core src (Some chunk) =
        after_is ∙ ap (λ (c : CoreValue). with_inbox c link.src (Some chunk)) destination_core ∙ ap (λ (n : ℕ). with_inbox core n (Some chunk)) end.running.starts in
        let cores : map core_of (set parts from after) ≡ slice_set w.cores dst (with_inbox core src (Some chunk)) =
        core_written w parts end.are from after (with_inbox core src (Some chunk)) filled ∙ ap (λ (n : ℕ). slice_set w.cores n (with_inbox core src (Some chunk))) end.from_is in
        let queues : set w.queues link.at queue_after ≡ slice_set w.queues link.at (record (queue_at w link.at) { chunks = queue_after.chunks }) =
        ap (set w.queues link.at) (popped.1 ∙ ap (λ (q : QueueValue). record q { chunks = queue_after.chunks }) (queue_of end other other_is)) in
        let chunks : (queue_at w link.at).chunks ≡ chunk ∷ queue_after.chunks = ap (λ (q : QueueValue). q.chunks) (sym (queue_of end other other_is)) ∙ popped.0 in
        ap (λ (v : WorldValue). (Done, v)) (λ k. record w { cores = cores k; queues = queues k })
        ∙ pops_chunk (chunk ∷ queue_after.chunks) read before before_is is empty chunks

    loads : load_chunk w src dst (inbox_at part.core link.src) ≡ load_result w src dst
    loads = ap (load_chunk w src dst) (inbox_there part.core destination_core) ∙ at_link w src dst link (λ _. load_chunk w src dst (inbox_at (core_at w dst) src)) end.running

    -- a chunk that came can be loaded
    pub may_be_loaded : (chunk : ChunkValue) → inbox_at part.core link.src ≡ Some chunk → IsTrue (can_load part.core link.src chunk)
    may_be_loaded chunk came =
        let queue = queue_at w link.at in
        let core : part.core ≡ core_at w queue.dst = destination_core ∙ ap (core_at w) (sym (there end).leads) in
        let starts : link.src ≡ queue.src = end.running.starts ∙ sym (there end).starts in
        let came_there : inbox_at (core_at w queue.dst) queue.src ≡ Some chunk = sym (ap (λ (c : CoreValue). inbox_at c link.src) core ∙ ap (inbox_at (core_at w queue.dst)) starts) ∙ came in
        subst (λ (both : CoreValue × ℕ). IsTrue (can_load both.0 both.1 chunk)) (λ k. (sym core k, sym starts k)) ((there end).sound.loads chunk came_there)

    pub load_done : (note : Note) (families : ℕ) (after : PartCoreValue) → LoadsFrom part.core link.src note after.core → families ≡ families_of (inbox_at part.core link.src)
        → (WasLoaded note families, record w { cores = map core_of (set parts from after) }) ≡ load_result w src dst
    load_done note families after loaded count =
        let core = core_at w dst in
        let chunk = loaded.chunk in
        let filled : after.core ≡ loaded_core core src chunk =
        loaded.after ∙ ap (λ (c : CoreValue). loaded_core c link.src chunk) destination_core ∙ ap (λ (n : ℕ). loaded_core core n chunk) end.running.starts in
        let cores : map core_of (set parts from after) ≡ slice_set w.cores dst (loaded_core core src chunk) =
        core_written w parts end.are from after (loaded_core core src chunk) filled ∙ ap (λ (n : ℕ). slice_set w.cores n (loaded_core core src chunk)) end.from_is in
        let held : families ≡ length chunk.families = count ∙ ap families_of loaded.came in
        ap (λ (n : Note). (WasLoaded n families, record w { cores = map core_of (set parts from after) })) loaded.noted
        ∙ ap (λ (n : ℕ). (WasLoaded chunk.note n, record w { cores = map core_of (set parts from after) })) held
        ∙ ap (λ (v : WorldValue). (WasLoaded chunk.note (length chunk.families), v)) (λ k. record w { cores = cores k })
        ∙ ap (load_chunk w src dst) (sym loaded.came) ∙ loads

    pub load_fails : (fault : LoadFault) (after : PartCoreValue) → fault ≡ load_fault part.core link.src → after.core ≡ part.core
        → IsResult (Load src dst) w (load_result w src dst) (Refused (load_refused fault)) (record w { cores = map core_of (set parts from after) })
    load_fails fault after why kept =
        let same : record w { cores = map core_of (set parts from after) } ≡ w = λ k. record w { cores = core_kept w parts end.are from part after part_is kept k } in
        subst (λ (v : WorldValue). IsResult (Load src dst) w (load_result w src dst) (Refused (load_refused fault)) v) (sym same)
        (subst (λ (r : StepResult). IsResult (Load src dst) w r (Refused (load_refused fault)) w) loads (load_refused_by w src dst (inbox_at part.core link.src) fault why))
