-- Push and Pop keep what holds.
use Rattle.std.proofs.Common.{subst, ◌≡◌, ℕ, Bool, false, List, [], ◌∷◌, ◌++◌, refl, sym, ap, ◌∙◌, arith, length, length-append, append-nil, eq-eqb}
use Rattle.std.specs.Prelude.{◌+◌, ◌-◌, ◌<◌, ◌==◌, ◌&&◌, if◌then◌else◌, nat_le, nat_lt, map, slice_get, Option, Some, None, is_some}
use Rattle.std.proofs.lemmas.List.{length-map, length-reverse, length-drop, get_or-set_same, get_or-set_other}
use Rattle.std.proofs.lemmas.Bool.{ne_eqb, lt-ltb, le-ltb}
use Rattle.sq_moves.specs.OpeningValue.{OpeningValue}
use Rattle.sq_store.specs.ChunkValue.{ChunkValue}
use Rattle.sq_exec.specs.OutLink.{OutLinkValue, new_out_link}
use Rattle.sq_exec.specs.CoreValue.{CoreValue, out_at, inbox_at, with_inbox}
use Rattle.sq_model.specs.declared.step.Step.TheVariants.{Push, Pop}
use Rattle.sq_model.specs.declared.answer.Answer.TheVariants.{Done, Refused}
use Rattle.sq_model.specs.declared.answer.Refusal.TheVariants.{OutboxEmpty, LinkFull, LinkEmpty, InboxFull}
use Rattle.sq_model.specs.Trace.{Trace, cut_count, push_count, pop_count, load_count}
use Rattle.sq_model.specs.Answers.{answer}
use Rattle.sq_transition.specs.WorldValue.{WorldValue, WholeLink, core_at, with_core, queue_at, with_queue, link_value, option_list, under_way}
use Rattle.sq_transition.specs.LeaderResults.{refuse}
use Rattle.sq_transition.specs.LinkResults.{sent_core, push_chunk, pop_chunk}
use Rattle.sq_transition.specs.Transition.{step_result}
use Rattle.sq_transition.specs.Holds.{CoreHolds, LinkHolds}
use Rattle.sq_transition.proofs.Keeps.{Keeps, keeps_if, keeps_refused}
use Rattle.sq_transition.proofs.Changed.{PartsHold, partitions_changed, links_changed}
use Rattle.sq_transition.proofs.Cores.{core_set}
use Rattle.sq_transition.proofs.Links.{IsFrom, keeps_link, same_ends, ends-with_queue, ends-then, link_set}
use Rattle.sq_transition.proofs.LinkEnds.{out_held, inbox_held, out_of, inbox_of, out_set, inbox_set, queue_set, out_stays, inbox_stays, queue_stays, way_below}

-- at its own ends a count goes up by one
pub count_here : (src dst s d n : ℕ) → s ≡ src → d ≡ dst → (if (src == s) && (dst == d) then n + 1 else n) ≡ n + 1
count_here src dst s d n same_src same_dst =
    ap (λ b. if b && (dst == d) then n + 1 else n) (eq-eqb src s (sym same_src)) ∙ ap (λ b. if b then n + 1 else n) (eq-eqb dst d (sym same_dst))

pub count_there : (b : Bool) (n : ℕ) → b ≡ false → (if b then n + 1 else n) ≡ n
count_there b n e = ap (λ c. if c then n + 1 else n) e

-- how many chunks of a link are where, by its ends
pub record CountedAt (t : Trace) (from to : ℕ) (l : WholeLink) : Type 0 where
  pub cut : cut_count t from to ≡ push_count t from to + length (option_list l.out.outbox)
  pub pushed : push_count t from to ≡ pop_count t from to + length l.queue
  pub popped : pop_count t from to ≡ load_count t from to + length (option_list l.inbox)

counted : (o : OpeningValue) (t : Trace) (l : WholeLink) → LinkHolds o t l → CountedAt t l.src l.dst l
counted o t l h =
    let way = sym (length-map (under_way l) (λ (chunk : ChunkValue). chunk.note)) ∙ ap length h.way ∙ length-drop (load_count t l.src l.dst) l.out.notes in
    let parts = length-append (option_list l.inbox) (l.queue ++ option_list l.out.outbox) in
    let rest = length-append l.queue (option_list l.out.outbox) in
    let cut = sym (ap length h.notes) ∙ length-reverse l.out.notes in
    record { cut = omega (arith, way, parts, rest, cut, h.few_loaded, h.popped, h.pushed); pushed = h.pushed; popped = h.popped }

pub counted_at : (o : OpeningValue) (t : Trace) (w : WorldValue) (i src dst : ℕ) → PartsHold o t w → IsFrom w i src dst → CountedAt t src dst (link_value w i)
counted_at o t w i src dst h from =
    subst (λ (p : ℕ × ℕ). CountedAt t p.0 p.1 (link_value w i)) (λ k. (from.starts k, from.ends k)) (counted o t (link_value w i) (h.links.each i from.within))

-- a link whose chunk went from the outbox into the queue
pushed_link : (o : OpeningValue) (t : Trace) (src dst : ℕ) (l : WholeLink) (chunk : ChunkValue) → LinkHolds o t l → l.src ≡ src → l.dst ≡ dst → l.out.outbox ≡ Some chunk
    → LinkHolds o ((Push src dst, Done) ∷ t) (record l { out = record l.out { outbox = None }; queue = l.queue ++ chunk ∷ [] })
pushed_link o t src dst l chunk h starts ends full =
    let same : option_list l.inbox ++ ((l.queue ++ chunk ∷ []) ++ []) ≡ under_way l = ap (λ q. option_list l.inbox ++ q) (append-nil (l.queue ++ chunk ∷ []) ∙ ap (λ out. l.queue ++ option_list out) (sym full)) in
    let more = count_here src dst l.src l.dst (push_count t l.src l.dst) starts ends in
    record {
      work = h.work;
      notes = h.notes;
      few_loaded = h.few_loaded;
      popped = h.popped;
      pushed = omega (arith, more, h.pushed, length-append l.queue (chunk ∷ []));
      way = ap (map (λ c. c.note)) same ∙ h.way;
      chunks = λ i one at. h.chunks i one (ap (λ cs. slice_get cs i) (sym same) ∙ at);
    }

-- the source once the chunk was sent
sent_holds : (o : OpeningValue) (t : Trace) (src dst part : ℕ) (core : CoreValue) → CoreHolds o t part core → CoreHolds o ((Push src dst, Done) ∷ t) part (sent_core core dst)
sent_holds o t src dst part core h =
    assumption (out_held o t part dst core (record (out_at core dst) { outbox = None }) h.set, h)

-- the world after the chunk went onto the link
push_holds : (o : OpeningValue) (t : Trace) (w : WorldValue) (src dst i : ℕ) (chunk : ChunkValue) → PartsHold o t w → IsFrom w i src dst → (out_at (core_at w src) dst).outbox ≡ Some chunk
    → PartsHold o ((Push src dst, Done) ∷ t) (with_queue (with_core w src (sent_core (core_at w src) dst)) i ((queue_at w i).chunks ++ chunk ∷ []))
push_holds o t w src dst i chunk h from full =
    let after : Trace = (Push src dst, Done) ∷ t in
    let l = link_value w i in
    let core = core_at w src in
    let sent = sent_core core dst in
    let out_is : l.out ≡ out_at core dst = out_of w i src dst from in
    let box : l.out.outbox ≡ Some chunk = ap (λ (out : OutLinkValue). out.outbox) out_is ∙ full in
    let some : 0 < length (under_way l) =
    let one = ap (λ out. length (option_list out)) box in
    omega (arith, length-append (option_list l.inbox) (l.queue ++ option_list l.out.outbox), length-append l.queue (option_list l.out.outbox), one) in
    let below = way_below o t w i src dst h from some in
    let there : src < length w.cores = omega (arith, below.source, h.partitions.count) in
    let stands : dst < length core.outs = let outs = (h.partitions.each src below.source).set.outs in omega (arith, below.destination, outs) in
    let put : out_at sent dst ≡ record (out_at core dst) { outbox = None } = get_or-set_same core.outs dst (record (out_at core dst) { outbox = None }) new_out_link stands in
    let one : WorldValue = with_core w src sent in
    let chunks : List ChunkValue = (queue_at w i).chunks ++ chunk ∷ [] in
    let new : WorldValue = with_queue one i chunks in
    let here : link_value new i ≡ record l { out = record l.out { outbox = None }; queue = chunks } =
    queue_set one i chunks from.within
    ∙ ap (λ (link : WholeLink). record link { queue = chunks }) (out_set w i src dst sent from there refl)
    ∙ ap (λ (out : OutLinkValue). record l { out = out; queue = chunks }) (put ∙ ap (λ (out : OutLinkValue). record out { outbox = None }) (sym out_is)) in
    links_changed
    (partitions_changed h (core_set o t after w src sent h.partitions below.source (sent_holds o t src dst src core (h.partitions.each src below.source)) (λ _ _ _ c. c)))
    (link_set o t after w new i src dst h.links from (ends-then w one new (same_ends w one refl) (ends-with_queue one i chunks from.within))
    (subst (LinkHolds o after) (sym here) (pushed_link o t src dst l chunk (h.links.each i from.within) from.starts from.ends box))
    (λ j apart within. queue_stays one i j chunks from.within apart
    ∙ out_stays o t w i src dst h.links from sent j apart within there refl (λ d other. get_or-set_other core.outs dst d (record (out_at core dst) { outbox = None }) new_out_link (λ e. other (sym e))))
    (λ _ c. c)
    (λ s d apart. assumption (count_there ((src == s) && (dst == d)) (push_count t s d) apart)))

push_case : (o : OpeningValue) (t : Trace) (w : WorldValue) (src dst i : ℕ) (outbox : Option ChunkValue) → PartsHold o t w → IsFrom w i src dst → (out_at (core_at w src) dst).outbox ≡ outbox
    → Keeps o t (Push src dst) (push_chunk w src dst i outbox)
    (if cut_count t src dst == push_count t src dst then Refused OutboxEmpty
    else if nat_le o.config.capacity (push_count t src dst - pop_count t src dst) then Refused LinkFull
    else Done)
push_case o t w src dst i None h from is =
    let c = counted_at o t w i src dst h from in
    let none = ap (λ (out : OutLinkValue). length (option_list out.outbox)) (out_of w i src dst from) ∙ ap (λ out. length (option_list out)) is in
    subst (λ b. Keeps o t (Push src dst) (push_chunk w src dst i None) (if b then Refused OutboxEmpty else if nat_le o.config.capacity (push_count t src dst - pop_count t src dst) then Refused LinkFull else Done))
    (sym (eq-eqb (cut_count t src dst) (push_count t src dst) (omega (arith, c.cut, none))))
    (keeps_refused o t w (Push src dst) OutboxEmpty h)
push_case o t w src dst i (Some chunk) h from is =
    let c = counted_at o t w i src dst h from in
    let one = ap (λ (out : OutLinkValue). length (option_list out.outbox)) (out_of w i src dst from) ∙ ap (λ out. length (option_list out)) is in
    let l = link_value w i in
    subst (λ b. Keeps o t (Push src dst) (push_chunk w src dst i (Some chunk)) (if b then Refused OutboxEmpty else if nat_le o.config.capacity (push_count t src dst - pop_count t src dst) then Refused LinkFull else Done))
    (sym (ne_eqb (cut_count t src dst) (push_count t src dst) (λ e. absurd (omega (arith, c.cut, one, e)))))
    (keeps_if o t (Push src dst) _ _ _ _ _ _
    (λ k. nat_le (h.plans.config k).capacity (let same : length l.queue ≡ push_count t src dst - pop_count t src dst = omega (arith, c.pushed) in same k))
    (λ _. keeps_refused o t w (Push src dst) LinkFull h)
    (λ _. (refl, push_holds o t w src dst i chunk h from is)))

pub push_keeps : (o : OpeningValue) (t : Trace) (w : WorldValue) (src dst : ℕ) → PartsHold o t w → Keeps o t (Push src dst) (step_result w (Push src dst)) (answer o t (Push src dst))
push_keeps o t w src dst h = keeps_link o t w (Push src dst) src dst _ _ h (λ i from. push_case o t w src dst i (out_at (core_at w src) dst).outbox h from refl)

-- a link whose oldest chunk went from the queue to its destination
popped_link : (o : OpeningValue) (t : Trace) (src dst : ℕ) (l : WholeLink) (chunk : ChunkValue) (queue : List ChunkValue) → LinkHolds o t l → l.src ≡ src → l.dst ≡ dst → l.queue ≡ chunk ∷ queue → l.inbox ≡ None
    → LinkHolds o ((Pop src dst, Done) ∷ t) (record l { queue = queue; inbox = Some chunk })
popped_link o t src dst l chunk queue h starts ends full free =
    let same : chunk ∷ [] ++ (queue ++ option_list l.out.outbox) ≡ under_way l = λ j. option_list (sym free j) ++ (sym full j ++ option_list l.out.outbox) in
    let none = ap (λ box. length (option_list box)) free in
    let len = ap length full in
    let more = count_here src dst l.src l.dst (pop_count t l.src l.dst) starts ends in
    record {
      work = h.work;
      notes = h.notes;
      few_loaded = h.few_loaded;
      popped = omega (arith, more, h.popped, none);
      pushed = omega (arith, more, h.pushed, len);
      way = ap (map (λ c. c.note)) same ∙ h.way;
      chunks = λ i one at. h.chunks i one (ap (λ cs. slice_get cs i) (sym same) ∙ at);
    }

-- the destination once the chunk came
came_holds : (o : OpeningValue) (t : Trace) (src dst part : ℕ) (core : CoreValue) (chunk : ChunkValue) → CoreHolds o t part core → CoreHolds o ((Pop src dst, Done) ∷ t) part (with_inbox core src (Some chunk))
came_holds o t src dst part core chunk h =
    assumption (inbox_held o t part src core (Some chunk) h.set, h)

-- the world after the chunk came off the link
pop_holds : (o : OpeningValue) (t : Trace) (w : WorldValue) (src dst i : ℕ) (chunk : ChunkValue) (chunks : List ChunkValue) → PartsHold o t w → IsFrom w i src dst → (queue_at w i).chunks ≡ chunk ∷ chunks → (link_value w i).inbox ≡ None
    → PartsHold o ((Pop src dst, Done) ∷ t) (with_core (with_queue w i chunks) dst (with_inbox (core_at w dst) src (Some chunk)))
pop_holds o t w src dst i chunk chunks h from full free =
    let after : Trace = (Pop src dst, Done) ∷ t in
    let l = link_value w i in
    let core = core_at w dst in
    let came = with_inbox core src (Some chunk) in
    let some : 0 < length (under_way l) =
    let one = ap length full in
    omega (arith, length-append (option_list l.inbox) (l.queue ++ option_list l.out.outbox), length-append l.queue (option_list l.out.outbox), one) in
    let below = way_below o t w i src dst h from some in
    let there : dst < length w.cores = omega (arith, below.destination, h.partitions.count) in
    let stands : src < length core.inboxes = let inboxes = (h.partitions.each dst below.destination).set.inboxes in omega (arith, below.source, inboxes) in
    let put : inbox_at came src ≡ Some chunk = get_or-set_same core.inboxes src (Some chunk) None stands in
    let one : WorldValue = with_core w dst came in
    let new : WorldValue = with_queue one i chunks in
    let here : link_value new i ≡ record l { queue = chunks; inbox = Some chunk } =
    queue_set one i chunks from.within
    ∙ ap (λ (link : WholeLink). record link { queue = chunks }) (inbox_set w i src dst came from there refl)
    ∙ ap (λ (inbox : Option ChunkValue). record l { queue = chunks; inbox = inbox }) put in
    links_changed
    (partitions_changed h (core_set o t after w dst came h.partitions below.destination (came_holds o t src dst dst core chunk (h.partitions.each dst below.destination)) (λ _ _ _ c. c)))
    (link_set o t after w new i src dst h.links from (ends-then w one new (same_ends w one refl) (ends-with_queue one i chunks from.within))
    (subst (LinkHolds o after) (sym here) (popped_link o t src dst l chunk chunks (h.links.each i from.within) from.starts from.ends full free))
    (λ j apart within. queue_stays one i j chunks from.within apart
    ∙ inbox_stays o t w i src dst h.links from came j apart within there refl (λ s other. get_or-set_other core.inboxes src s (Some chunk) None (λ e. other (sym e))))
    (λ _ c. c)
    (λ s d apart. assumption (count_there ((src == s) && (dst == d)) (pop_count t s d) apart)))

pop_case : (o : OpeningValue) (t : Trace) (w : WorldValue) (src dst i : ℕ) (queue : List ChunkValue) → PartsHold o t w → IsFrom w i src dst → (queue_at w i).chunks ≡ queue → (link_value w i).inbox ≡ None
    → Keeps o t (Pop src dst) (pop_chunk w src dst i queue) (if pop_count t src dst == push_count t src dst then Refused LinkEmpty else Done)
pop_case o t w src dst i [] h from is free =
    let c = counted_at o t w i src dst h from in
    let none = ap length is in
    subst (λ b. Keeps o t (Pop src dst) (pop_chunk w src dst i []) (if b then Refused LinkEmpty else Done))
    (sym (eq-eqb (pop_count t src dst) (push_count t src dst) (omega (arith, c.pushed, none))))
    (keeps_refused o t w (Pop src dst) LinkEmpty h)
pop_case o t w src dst i (chunk ∷ queue) h from is free =
    let c = counted_at o t w i src dst h from in
    let some = ap length is in
    subst (λ b. Keeps o t (Pop src dst) (pop_chunk w src dst i (chunk ∷ queue)) (if b then Refused LinkEmpty else Done))
    (sym (ne_eqb (pop_count t src dst) (push_count t src dst) (λ e. absurd (omega (arith, c.pushed, some, e)))))
    (refl, pop_holds o t w src dst i chunk queue h from is free)

-- with a chunk that came and isn't loaded nothing is popped
pop_inbox : (o : OpeningValue) (t : Trace) (w : WorldValue) (src dst i : ℕ) (inbox : Option ChunkValue) → PartsHold o t w → IsFrom w i src dst → inbox_at (core_at w dst) src ≡ inbox
    → Keeps o t (Pop src dst) (if is_some inbox then refuse w InboxFull else pop_chunk w src dst i (queue_at w i).chunks)
    (if nat_lt (load_count t src dst) (pop_count t src dst) then Refused InboxFull
    else if pop_count t src dst == push_count t src dst then Refused LinkEmpty
    else Done)
pop_inbox o t w src dst i (Some chunk) h from is =
    let c = counted_at o t w i src dst h from in
    let one = ap (λ box. length (option_list box)) (inbox_of w i src dst from ∙ is) in
    subst (λ b. Keeps o t (Pop src dst) (refuse w InboxFull) (if b then Refused InboxFull else if pop_count t src dst == push_count t src dst then Refused LinkEmpty else Done))
    (sym (lt-ltb (load_count t src dst) (pop_count t src dst) (omega (arith, c.popped, one))))
    (keeps_refused o t w (Pop src dst) InboxFull h)
pop_inbox o t w src dst i None h from is =
    let c = counted_at o t w i src dst h from in
    let none = ap (λ box. length (option_list box)) (inbox_of w i src dst from ∙ is) in
    subst (λ b. Keeps o t (Pop src dst) (pop_chunk w src dst i (queue_at w i).chunks) (if b then Refused InboxFull else if pop_count t src dst == push_count t src dst then Refused LinkEmpty else Done))
    (sym (le-ltb (load_count t src dst) (pop_count t src dst) (omega (arith, c.popped, none))))
    (pop_case o t w src dst i (queue_at w i).chunks h from refl (inbox_of w i src dst from ∙ is))

pub pop_keeps : (o : OpeningValue) (t : Trace) (w : WorldValue) (src dst : ℕ) → PartsHold o t w → Keeps o t (Pop src dst) (step_result w (Pop src dst)) (answer o t (Pop src dst))
pop_keeps o t w src dst h = keeps_link o t w (Pop src dst) src dst _ _ h (λ i from. pop_inbox o t w src dst i (inbox_at (core_at w dst) src) h from refl)
