-- A world in which one end of a link changed: the source's, the destination's, or the queue between them.
use Rattle.std.proofs.Common.{inl, inr, ◌≡◌, ℕ, List, refl, sym, ap, ◌∙◌, arith, length, eq-eqb}
use Rattle.std.specs.Prelude.{◌<◌, ◌≢◌, if◌then◌else◌, slice_get, slice_set, slice_index_or, Option, Some, None}
use Rattle.std.proofs.lemmas.List.{length-set, length-map, length-drop, get_or_past}
use Rattle.std.proofs.lemmas.Bool.{cases_lt, ne_eqb}
use Rattle.sq_moves.specs.declared.recon.Range.{Range}
use Rattle.sq_moves.specs.OpeningValue.{OpeningValue}
use Rattle.sq_store.specs.ChunkValue.{ChunkValue}
use Rattle.sq_exec.specs.declared.run.Run.{Run}
use Rattle.sq_exec.specs.OutLink.{OutLinkValue, new_out_link}
use Rattle.sq_exec.specs.CoreValue.{CoreValue, out_at, with_out, inbox_at, with_inbox}
use Rattle.sq_model.specs.Trace.{Trace, load_count}
use Rattle.sq_transition.specs.WorldValue.{WorldValue, no_core, core_at, with_core, queue_at, with_queue, link_of, link_value, under_way}
use Rattle.sq_transition.specs.Holds.{IsSetFor, LinksHold}
use Rattle.sq_transition.proofs.Sets.{by_place}
use Rattle.sq_transition.proofs.Changed.{PartsHold}
use Rattle.sq_transition.proofs.Cores.{core_after, link_stays, set_again}
use Rattle.sq_transition.proofs.Links.{IsFrom, queue_after}

-- a partition whose end of a link is another is set up as it was
pub out_held : (o : OpeningValue) (t : Trace) (part dst : ℕ) (core : CoreValue) (out : OutLinkValue) → IsSetFor o t part core → IsSetFor o t part (with_out core dst out)
out_held o t part dst core out h = set_again o t t part core core.started core.stage (slice_set core.outs dst out) core.inboxes core.given_up core.loaded h h.started h.stage (length-set core.outs dst out) refl refl refl

-- so is one that has another chunk, or none, from a partition
pub inbox_held : (o : OpeningValue) (t : Trace) (part src : ℕ) (core : CoreValue) (inbox : Option ChunkValue) → IsSetFor o t part core → IsSetFor o t part (with_inbox core src inbox)
inbox_held o t part src core inbox h = set_again o t t part core core.started core.stage core.outs (slice_set core.inboxes src inbox) core.given_up core.loaded h h.started h.stage refl (length-set core.inboxes src inbox) refl refl

-- and one that loaded more of a segment
pub loaded_held : (o : OpeningValue) (t : Trace) (part seg : ℕ) (core : CoreValue) (runs : List Run) → IsSetFor o t part core → IsSetFor o t part (record core { loaded = slice_set core.loaded seg runs })
loaded_held o t part seg core runs h = set_again o t t part core core.started core.stage core.outs core.inboxes core.given_up (slice_set core.loaded seg runs) h h.started h.stage refl refl refl (length-set core.loaded seg runs)

-- the source's end of a link
pub out_of : (w : WorldValue) (i src dst : ℕ) → IsFrom w i src dst → (link_value w i).out ≡ out_at (core_at w src) dst
out_of w i src dst from = λ k. out_at (core_at w (from.starts k)) (from.ends k)

-- the chunk that came and isn't loaded
pub inbox_of : (w : WorldValue) (i src dst : ℕ) → IsFrom w i src dst → (link_value w i).inbox ≡ inbox_at (core_at w dst) src
inbox_of w i src dst from = λ k. inbox_at (core_at w (from.ends k)) (from.starts k)

-- what is read of the partition that was set, and what is read of any where that stays
module _ {A : Type 0} (read : CoreValue → A) (w : WorldValue) (part p : ℕ) (core : CoreValue) (there : part < length w.cores) where
  read_set : part ≡ p → read (core_at (with_core w part core) p) ≡ read core
  read_set same = ap read (core_after w part p core there) ∙ ap (λ b. read (if b then core else core_at w p)) (eq-eqb part p same)

  read_stays : read core ≡ read (core_at w part) → read (core_at (with_core w part core) p) ≡ read (core_at w p)
  read_stays same =
      ap read (core_after w part p core there)
      ∙ by_place part p (λ b. read (if b then core else core_at w p) ≡ read (core_at w p)) (λ one. same ∙ ap (λ q. read (core_at w q)) one) (λ _. refl)

-- a link in a world of the same queues, by its ends there
link_again : (w new : WorldValue) (i : ℕ) {out : OutLinkValue} {inbox : Option ChunkValue} → out_at (core_at new (queue_at w i).src) (queue_at w i).dst ≡ out → inbox_at (core_at new (queue_at w i).dst) (queue_at w i).src ≡ inbox
    → link_of new (queue_at w i) ≡ record (link_value w i) { out = out; inbox = inbox }
link_again w new i outs inboxes = λ k. record { src = (queue_at w i).src; dst = (queue_at w i).dst; out = outs k; queue = (queue_at w i).chunks; inbox = inboxes k }

-- the link once its source has another end of it
pub out_set : (w : WorldValue) (i src dst : ℕ) (core : CoreValue) → IsFrom w i src dst → src < length w.cores → core.inboxes ≡ (core_at w src).inboxes
    → link_value (with_core w src core) i ≡ record (link_value w i) { out = out_at core dst }
out_set w i src dst core from there same =
    let q = queue_at w i in
    link_again w (with_core w src core) i (read_set (λ c. out_at c q.dst) w src q.src core there (sym from.starts) ∙ ap (out_at core) from.ends)
    (read_stays (λ c. inbox_at c q.src) w src q.dst core there (ap (λ inboxes. slice_index_or inboxes q.src None) same))

-- the link once another chunk, or none, is at its destination
pub inbox_set : (w : WorldValue) (i src dst : ℕ) (core : CoreValue) → IsFrom w i src dst → dst < length w.cores → core.outs ≡ (core_at w dst).outs
    → link_value (with_core w dst core) i ≡ record (link_value w i) { inbox = inbox_at core src }
inbox_set w i src dst core from there same =
    let q = queue_at w i in
    link_again w (with_core w dst core) i (read_stays (λ c. out_at c q.dst) w dst q.src core there (ap (λ outs. slice_index_or outs q.dst new_out_link) same))
    (read_set (λ c. inbox_at c q.src) w dst q.dst core there (sym from.ends) ∙ ap (inbox_at core) from.starts)

-- the link once its queue holds other chunks
pub queue_set : (w : WorldValue) (i : ℕ) (chunks : List ChunkValue) → i < length w.queues → link_value (with_queue w i chunks) i ≡ record (link_value w i) { queue = chunks }
queue_set w i chunks within =
    ap (link_of w) (queue_after w i i chunks within ∙ ap (λ b. if b then record (queue_at w i) { chunks = chunks } else queue_at w i) (eq-eqb i i refl))

-- another link stays
pub queue_stays : (w : WorldValue) (i j : ℕ) (chunks : List ChunkValue) → i < length w.queues → i ≢ j → link_value (with_queue w i chunks) j ≡ link_value w j
queue_stays w i j chunks within apart =
    ap (link_of w) (queue_after w i j chunks within ∙ ap (λ b. if b then record (queue_at w i) { chunks = chunks } else queue_at w j) (ne_eqb i j apart))

module _ (o : OpeningValue) (t : Trace) (w : WorldValue) (i src dst : ℕ) (h : LinksHold o t w) (from : IsFrom w i src dst) (core : CoreValue) where
  -- another link than the one whose source has another end of it
  pub out_stays : (j : ℕ) → i ≢ j → j < length w.queues → src < length w.cores → core.inboxes ≡ (core_at w src).inboxes
      → ((d : ℕ) → dst ≢ d → out_at core d ≡ out_at (core_at w src) d) → link_value (with_core w src core) j ≡ link_value w j
  out_stays j apart within there same others =
      link_stays w src core j there
      (λ starts. others (queue_at w j).dst (λ ends. apart (h.one_each i j from.within within (from.starts ∙ sym starts) (from.ends ∙ ends))))
      (λ _. ap (λ inboxes. slice_index_or inboxes (queue_at w j).src None) same)

  -- another link than the one at whose destination another chunk stands, or none
  pub inbox_stays : (j : ℕ) → i ≢ j → j < length w.queues → dst < length w.cores → core.outs ≡ (core_at w dst).outs
      → ((s : ℕ) → src ≢ s → inbox_at core s ≡ inbox_at (core_at w dst) s) → link_value (with_core w dst core) j ≡ link_value w j
  inbox_stays j apart within there same others =
      link_stays w dst core j there
      (λ _. ap (λ outs. slice_index_or outs (queue_at w j).dst new_out_link) same)
      (λ ends. others (queue_at w j).src (λ starts. apart (h.one_each i j from.within within (from.starts ∙ starts) (from.ends ∙ sym ends))))

-- what is past the end is the default
within_by : {X : Type 0} (size : X → ℕ) (xs : List X) (i : ℕ) (none : X) → size none ≡ 0 → 0 < size (slice_index_or xs i none) → i < length xs
within_by size xs i none zero some =
    elim (cases_lt i (length xs)) [
      | inl low ↦ low
      | inr high ↦ let past = ap size (get_or_past xs i none high) in absurd (omega (arith, some, zero, past))
    ]

-- the ends of a link are partitions
pub record EndsBelow (o : OpeningValue) (src dst : ℕ) : Type 0 where
  pub source : src < o.old.parts
  pub destination : dst < o.old.parts

-- each segment goes from one partition to another
abbrev pub AllEndsBelow : OpeningValue → Type 0
AllEndsBelow o = (seg : ℕ) (range : Range) → slice_get o.recon.segments seg ≡ Some range → EndsBelow o range.src range.dst

-- so they are where chunks are under way
pub way_below : (o : OpeningValue) (t : Trace) (w : WorldValue) (i src dst : ℕ) → PartsHold o t w → IsFrom w i src dst → 0 < length (under_way (link_value w i)) → EndsBelow o src dst
way_below o t w i src dst h from some =
    let l = link_value w i in
    let lh = h.links.each i from.within in
    let way = sym (length-map (under_way l) (λ (chunk : ChunkValue). chunk.note)) ∙ ap length lh.way ∙ length-drop (load_count t l.src l.dst) l.out.notes in
    let notes = ap (λ (out : OutLinkValue). length out.notes) (out_of w i src dst from) in
    let noted : 0 < length (out_at (core_at w src) dst).notes = omega (arith, some, way, notes) in
    let source : src < o.old.parts = let low = within_by (λ core. length (out_at core dst).notes) w.cores src no_core refl noted in omega (arith, low, h.partitions.count) in
    let low = within_by (λ (out : OutLinkValue). length out.notes) (core_at w src).outs dst new_out_link refl noted in
    let outs = (h.partitions.each src source).set.outs in
    record { source = source; destination = omega (arith, low, outs) }
