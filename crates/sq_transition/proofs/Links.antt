-- A step on a link, and a world in which one link changed.
use Rattle.std.proofs.Common.{⊎_elim, inl, inr, subst, subst₂, ◌≡◌, ℕ, Bool, true, false, refl, sym, ap, ◌∙◌, arith, length}
use Rattle.std.specs.Prelude.{◌+◌, ◌<◌, ◌≤◌, ◌≢◌, drop, position, List, map, ◌==◌, nat_lt, ◌&&◌, if◌then◌else◌, not, slice_get, slice_index_or, Option, Some, None, is_some}
use Rattle.std.proofs.lemmas.List.{length-set}
use Rattle.std.proofs.lemmas.List.Quantifiers.{position-Some}
use Rattle.std.proofs.lemmas.List.Folds.{position_or_len-set}
use Rattle.std.proofs.lemmas.Bool.{cases_Bool, cases_eq, eqb-true, and_parts, and_from}
use Rattle.std.proofs.Math.Bool.{and-false}
use Rattle.sq_store.specs.ChunkValue.{ChunkValue}
use Rattle.sq_moves.specs.ReconValue.{is_link, stage_on}
use Rattle.sq_moves.specs.OpeningValue.{OpeningValue}
use Rattle.sq_model.specs.declared.step.Step.{Step}
use Rattle.sq_model.specs.declared.answer.Answer.{Answer}
use Rattle.sq_model.specs.declared.answer.Answer.TheVariants.{Refused}
use Rattle.sq_model.specs.declared.answer.Refusal.TheVariants.{NoSuchLink}
use Rattle.sq_model.specs.Trace.{Trace, stage, notes, link, push_count, pop_count, load_count}
use Rattle.sq_model.specs.Links.{open_items}
use Rattle.sq_model.specs.Answers.{while_moving, on_link}
use Rattle.sq_transition.specs.WorldValue.{WorldValue, running_stage, QueueValue, WholeLink, no_queue, queue_at, with_queue, link_index, link_value, option_list, under_way}
use Rattle.sq_transition.specs.LeaderResults.{StepResult, refuse}
use Rattle.sq_transition.specs.LinkResults.{if_link, result_at_link}
use Rattle.sq_transition.specs.Holds.{LinkHolds, LinksHold, ChunkHolds, work_of}
use Rattle.sq_transition.proofs.Changed.{PartsHold}
use Rattle.sq_transition.proofs.Sets.{by_place, get_or-set}
use Rattle.sq_transition.proofs.Keeps.{Keeps, keeps_refused, keeps_moving}

-- the queue of this number goes from the one partition to the other
pub record IsFrom (w : WorldValue) (i src dst : ℕ) : Type 0 where
  pub within : i < length w.queues
  pub starts : (queue_at w i).src ≡ src
  pub ends : (queue_at w i).dst ≡ dst

pub index_found : (w : WorldValue) (src dst i : ℕ) → link_index w src dst ≡ Some i → IsFrom w i src dst
index_found w src dst i e =
    let found = position-Some (λ (queue : QueueValue). (queue.src == src) && (queue.dst == dst)) w.queues i no_queue e in
    record {
      within = found.0;
      starts = eqb-true (queue_at w i).src src (and_parts _ _ found.1).0;
      ends = eqb-true (queue_at w i).dst dst (and_parts _ _ found.1).1;
    }

keeps_result : (o : OpeningValue) (t : Trace) (w : WorldValue) (step : Step) (src dst : ℕ) (result : ℕ → StepResult) (answer : Answer) (found : Option ℕ) → PartsHold o t w
    → link_index w src dst ≡ found → is_some found ≡ is_link o.recon.ranges src dst → (stage_on o.recon src dst == stage t) ≡ true
    → ((i : ℕ) → IsFrom w i src dst → Keeps o t step (result i) answer)
    → Keeps o t step (result_at_link w result found) (on_link o t src dst answer)
keeps_result o t w step src dst result answer None h e is now kept =
    subst (λ b. Keeps o t step (result_at_link w result None) (if not (b && (stage_on o.recon src dst == stage t)) then Refused NoSuchLink else answer)) is (keeps_refused o t w step NoSuchLink h)
keeps_result o t w step src dst result answer (Some i) h e is now kept =
    subst (λ b. Keeps o t step (result i) (if not b then Refused NoSuchLink else answer)) (sym (and_from (is_link o.recon.ranges src dst) (stage_on o.recon src dst == stage t) (sym is) now)) (kept i (index_found w src dst i e))

-- a step on a link
pub keeps_link : (o : OpeningValue) (t : Trace) (w : WorldValue) (step : Step) (src dst : ℕ) (result : ℕ → StepResult) (answer : Answer) → PartsHold o t w
    → ((i : ℕ) → IsFrom w i src dst → Keeps o t step (result i) answer)
    → Keeps o t step (if_link w src dst result) (while_moving t (on_link o t src dst answer))
keeps_link o t w step src dst result answer h kept =
    keeps_moving o t w step _ _ h (
    elim (cases_Bool (stage_on o.recon src dst == stage t)) [
      | inl now ↦
          subst (λ b. Keeps o t step (if not b then refuse w NoSuchLink else result_at_link w result (link_index w src dst)) (on_link o t src dst answer)) (sym (same_stage ∙ now))
          (keeps_result o t w step src dst result answer (link_index w src dst) h refl (h.links.ends src dst) now kept)
      | inr other ↦
          subst₂ (λ b c. Keeps o t step (if not b then refuse w NoSuchLink else result_at_link w result (link_index w src dst)) (if not (is_link o.recon.ranges src dst && c) then Refused NoSuchLink else answer)) (sym (same_stage ∙ other)) (sym other)
          (subst (λ b. Keeps o t step (refuse w NoSuchLink) (if not b then Refused NoSuchLink else answer)) (sym (and-false (is_link o.recon.ranges src dst))) (keeps_refused o t w step NoSuchLink h))
    ])
  where
    same_stage : (stage_on w.recon src dst == running_stage w) ≡ (stage_on o.recon src dst == stage t)
    same_stage = λ i. stage_on (h.plans.recon i) src dst == h.leader.stage i

-- the queues of another world have the same ends
pub record SameEnds (w other : WorldValue) : Type 0 where
  pub count : length other.queues ≡ length w.queues
  pub src : (i : ℕ) → (queue_at other i).src ≡ (queue_at w i).src
  pub dst : (i : ℕ) → (queue_at other i).dst ≡ (queue_at w i).dst
  pub index : (src dst : ℕ) → link_index other src dst ≡ link_index w src dst

-- a world with the same queues
pub same_ends : (w other : WorldValue) → other.queues ≡ w.queues → SameEnds w other
same_ends w other same = record {
  count = ap length same;
  src = λ i. ap (λ queues. (slice_index_or queues i no_queue).src) same;
  dst = λ i. ap (λ queues. (slice_index_or queues i no_queue).dst) same;
  index = λ src dst. ap (position (λ (queue : QueueValue). (queue.src == src) && (queue.dst == dst))) same;
}

-- what a queue is where one was set
pub queue_after : (w : WorldValue) (i j : ℕ) (chunks : List ChunkValue) → i < length w.queues → queue_at (with_queue w i chunks) j ≡ (if i == j then record (queue_at w i) { chunks = chunks } else queue_at w j)
queue_after w i j chunks within = get_or-set w.queues i j (record (queue_at w i) { chunks = chunks }) no_queue within

-- a world in which one queue holds other chunks
pub ends-with_queue : (w : WorldValue) (i : ℕ) (chunks : List ChunkValue) → i < length w.queues → SameEnds w (with_queue w i chunks)
ends-with_queue w i chunks within =
    let len = length-set w.queues i (record (queue_at w i) { chunks = chunks }) in
    record {
      count = len;
      src = λ j.
          ap (λ (queue : QueueValue). queue.src) (queue_after w i j chunks within)
          ∙ by_place i j (λ b. (if b then record (queue_at w i) { chunks = chunks } else queue_at w j).src ≡ (queue_at w j).src) (λ same. ap (λ k. (queue_at w k).src) same) (λ _. refl);
      dst = λ j.
          ap (λ (queue : QueueValue). queue.dst) (queue_after w i j chunks within)
          ∙ by_place i j (λ b. (if b then record (queue_at w i) { chunks = chunks } else queue_at w j).dst ≡ (queue_at w j).dst) (λ same. ap (λ k. (queue_at w k).dst) same) (λ _. refl);
      index = λ src dst.
          let test : QueueValue → Bool = λ queue. (queue.src == src) && (queue.dst == dst) in
          let place = position_or_len-set test w.queues i (record (queue_at w i) { chunks = chunks }) no_queue refl in
          (λ k. if nat_lt (place k) (len k) then Some (place k) else None);
    }

pub ends-then : (w one other : WorldValue) → SameEnds w one → SameEnds one other → SameEnds w other
ends-then w one other a b = record {
  count = b.count ∙ a.count;
  src = λ i. b.src i ∙ a.src i;
  dst = λ i. b.dst i ∙ a.dst i;
  index = λ src dst. b.index src dst ∙ a.index src dst;
}

-- two queues don't have the same ends
pub other_ends : (o : OpeningValue) (t : Trace) (w : WorldValue) (i j src dst : ℕ) → LinksHold o t w → IsFrom w i src dst → i ≢ j → j < length w.queues → ((src == (queue_at w j).src) && (dst == (queue_at w j).dst)) ≡ false
other_ends o t w i j src dst h from apart within =
    by_place src (queue_at w j).src (λ b. (b && (dst == (queue_at w j).dst)) ≡ false)
    (λ same_src. by_place dst (queue_at w j).dst (λ b. b ≡ false)
    (λ same_dst. absurd (apart (h.one_each i j from.within within (from.starts ∙ same_src) (from.ends ∙ same_dst))))
    (λ _. refl))
    (λ _. refl)

-- two histories say the same of a link
pub record SaySame (o : OpeningValue) (t after : Trace) (src dst : ℕ) : Type 0 where
  pub work : map (work_of o (notes after)) (open_items o after src dst) ≡ map (work_of o (notes t)) (open_items o t src dst)
  pub notes : link src dst (notes after) ≡ link src dst (notes t)
  pub loaded : load_count after src dst ≡ load_count t src dst
  pub popped : pop_count after src dst ≡ pop_count t src dst
  pub pushed : push_count after src dst ≡ push_count t src dst

-- then the link stays, if its chunks do
pub link_kept : (o : OpeningValue) (t after : Trace) (l : WholeLink) → LinkHolds o t l → SaySame o t after l.src l.dst
    → ((i : ℕ) (chunk : ChunkValue) → slice_get (under_way l) i ≡ Some chunk → ChunkHolds o t chunk → ChunkHolds o after chunk) → LinkHolds o after l
link_kept o t after l h same kept = record {
  work = h.work ∙ sym same.work;
  notes = h.notes ∙ sym same.notes;
  few_loaded = subst (λ n. n ≤ length l.out.notes) (sym same.loaded) h.few_loaded;
  popped = same.popped ∙ h.popped ∙ ap (λ n. n + length (option_list l.inbox)) (sym same.loaded);
  pushed = same.pushed ∙ h.pushed ∙ ap (λ n. n + length l.queue) (sym same.popped);
  way = h.way ∙ ap (λ n. drop n l.out.notes) (sym same.loaded);
  chunks = λ i chunk at. kept i chunk at (h.chunks i chunk at);
}

-- the links of a world that has the same queues' ends: it is enough that each holds
pub links_with : (o : OpeningValue) (t after : Trace) (w new : WorldValue) → LinksHold o t w → SameEnds w new → ((j : ℕ) → j < length w.queues → LinkHolds o after (link_value new j)) → LinksHold o after new
links_with o t after w new h ends each = record {
  each = λ j within. each j (omega (arith, ends.count, within));
  ends = λ src dst. ap is_some (ends.index src dst) ∙ h.ends src dst;
  one_each = λ i j at_i at_j same_src same_dst.
      h.one_each i j (omega (arith, ends.count, at_i)) (omega (arith, ends.count, at_j)) (sym (ends.src i) ∙ same_src ∙ ends.src j) (sym (ends.dst i) ∙ same_dst ∙ ends.dst j);
}

-- the links, where the one at i changed: of the others the history says what it said
pub link_set : (o : OpeningValue) (t after : Trace) (w new : WorldValue) (i src dst : ℕ) → LinksHold o t w → IsFrom w i src dst → SameEnds w new
    → LinkHolds o after (link_value new i)
    → ((j : ℕ) → i ≢ j → j < length w.queues → link_value new j ≡ link_value w j)
    → ((chunk : ChunkValue) → ChunkHolds o t chunk → ChunkHolds o after chunk)
    → ((s d : ℕ) → ((src == s) && (dst == d)) ≡ false → SaySame o t after s d)
    → LinksHold o after new
link_set o t after w new i src dst h from ends mine stays chunks others =
    links_with o t after w new h ends (λ j within.
    ⊎_elim
    (λ (same : i ≡ j). subst (λ k. LinkHolds o after (link_value new k)) same mine)
    (λ (apart : i ≢ j).
    subst (LinkHolds o after) (sym (stays j apart within))
    (link_kept o t after (link_value w j) (h.each j within) (others (queue_at w j).src (queue_at w j).dst (other_ends o t w i j src dst h from apart within)) (λ _ chunk _. chunks chunk)))
    (cases_eq i j))

-- the links, where none changed
pub links_same : (o : OpeningValue) (t after : Trace) (w new : WorldValue) → LinksHold o t w → SameEnds w new
    → ((j : ℕ) → j < length w.queues → link_value new j ≡ link_value w j)
    → ((s d : ℕ) → SaySame o t after s d)
    → ((j : ℕ) → j < length w.queues → (i : ℕ) (chunk : ChunkValue) → slice_get (under_way (link_value w j)) i ≡ Some chunk → ChunkHolds o t chunk → ChunkHolds o after chunk)
    → LinksHold o after new
links_same o t after w new h ends stays same chunks =
    links_with o t after w new h ends (λ j within.
    subst (LinkHolds o after) (sym (stays j within))
    (link_kept o t after (link_value w j) (h.each j within) (same (queue_at w j).src (queue_at w j).dst) (chunks j within)))
