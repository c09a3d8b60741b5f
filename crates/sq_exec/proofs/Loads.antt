-- The chunk that came is loaded.
use Rattle.std.proofs.Common.{◌≡◌, ℕ, ◌<◌, Bool, true, false, not, ◌||◌, List, [], ◌∷◌, map, length, get_or, set, Option, Some, None, Result, Ok, Err, refl, sym, ap, subst, ◌∙◌}
use Rattle.std.specs.Prelude.{◌==◌, ◌&&◌, slice_get, IsTrue, OnErr}
use Rattle.std.proofs.lemmas.List.{get_or_default, set-get_or}
use Rattle.std.proofs.lemmas.Option.{same_Some, slice_get_within}
use Rattle.sq_moves.specs.declared.recon.Range.{Range}
use Rattle.sq_store.specs.ChunkValue.{ChunkValue}
use Rattle.sq_schema.specs.TxnValue.{TxnValue}
use Rattle.sq_exec.specs.Waiting.{Arrival, WaitingValue, txns_of, numbers_of, due_if, with_due}
use Rattle.sq_exec.specs.Index.{is_between}
use Rattle.sq_exec.proofs.Arrivals.{txns-due, numbers-due}
use Rattle.sq_store.specs.StoreValue.{StoreValue, with_families, has_none_of}
use Rattle.sq_exec.specs.declared.run.Run.{Run}
use Rattle.sq_moves.specs.ReconValue.{extent}
use Rattle.sq_exec.specs.Runs.{is_met, runs_with}
use Rattle.sq_exec.specs.CoreValue.{CoreValue, Numbering, PartCoreValue, inbox_at, loaded_at}
use Rattle.sq_exec.specs.Moving.{lies_in, can_load, can_load_in, loaded_core, LoadsFrom}
use Rattle.sq_exec.specs.Kept.{IsCore}
use Rattle.sq_exec.proofs.Coming.{IsMoreDue, more_kept, loaded_kept}
use Rattle.sq_exec.proofs.Seen.{seen_changed, seen_kept}
use Rattle.sq_store.specs.declared.chunk.Note.{Note}

-- what holds anyway holds on an error
pub on_err : {T E : Type 0} {P : Type 0} → (result : Result T E) → P → OnErr result P
on_err (Ok x) p = tt
on_err (Err e) p = p

-- what a chunk that can be loaded is about
pub record Loadable (core : CoreValue) (chunk : ChunkValue) : Type 0 where
  pub exists : chunk.note.seg < length core.recon.segments
  pub absent : has_none_of core.store chunk.families ≡ true

and_right : (a b : Bool) → (a && b) ≡ true → b ≡ true
and_right true b h = h
and_right false b h = cc

loadable : (core : CoreValue) (src : ℕ) (chunk : ChunkValue) → IsTrue (can_load core src chunk) → Loadable core chunk
loadable core src chunk can = of_segment (slice_get core.recon.segments chunk.note.seg) refl can
  where
    parts : (a b c d e : Bool) → (a && (b && (c && (d && e)))) ≡ true → e ≡ true
    parts a b c d e all = and_right d e (and_right c (d && e) (and_right b (c && (d && e)) (and_right a (b && (c && (d && e))) all)))

    of_segment : (read : Option Range) → slice_get core.recon.segments chunk.note.seg ≡ read → can_load_in core src chunk read ≡ true → Loadable core chunk
    of_segment None read can = cc
    of_segment (Some segment) read can = record {
      exists = slice_get_within core.recon.segments chunk.note.seg segment read;
      absent = parts (segment.src == src) (segment.dst == core.part) (lies_in chunk.note (extent core.recon.width segment chunk.note.node)) (not (is_met (loaded_at core chunk.note.seg) chunk.note)) (has_none_of core.store chunk.families) can;
    }

module _ {seen now : PartCoreValue} (view_is : seen ≡ now) (src from : ℕ) (from_is : from ≡ src) (within : from < length seen.core.inboxes) where
  -- what is in the inbox came from there
  pub came : (inbox : Option ChunkValue) (chunk : ChunkValue) → inbox ≡ get_or seen.core.inboxes from inbox → inbox ≡ Some chunk → inbox_at now.core src ≡ Some chunk
  came inbox chunk read is =
      ap (λ (v : PartCoreValue). inbox_at v.core src) (sym view_is) ∙ ap (inbox_at seen.core) (sym from_is) ∙ sym (get_or_default seen.core.inboxes from inbox None within) ∙ sym read ∙ is

  -- its families aren't here, and its segment is one of these
  pub came_loadable : ((chunk : ChunkValue) → inbox_at now.core src ≡ Some chunk → IsTrue (can_load now.core src chunk)) → (inbox : Option ChunkValue) (chunk : ChunkValue) → inbox ≡ get_or seen.core.inboxes from inbox → inbox ≡ Some chunk
      → Loadable seen.core chunk
  came_loadable can inbox chunk read is = subst (λ (v : PartCoreValue). Loadable v.core chunk) (sym view_is) (loadable now.core src chunk (can chunk (came inbox chunk read is)))

  module _ {A : Type 0} (items : A → List Run) (loaded : List A) (loaded_is : map items loaded ≡ seen.core.loaded) where
    -- the parts of the partition are those of the definition
    pub was_loaded : (inbox gone : Option ChunkValue) (first chunk : ChunkValue) (at : ℕ) (runs more : A) (store : StoreValue) (waiting : List TxnValue) → waiting ≡ seen.core.waiting → inbox ≡ get_or seen.core.inboxes from inbox → inbox ≡ Some first → inbox ≡ Some chunk → gone ≡ None
        → at ≡ first.note.seg → runs ≡ get_or loaded at runs → items more ≡ runs_with (items runs) chunk.note → store ≡ with_families seen.core.store chunk.families
        → LoadsFrom now.core src chunk.note (record seen.core { inboxes = set seen.core.inboxes from gone; store = store; waiting = waiting; loaded = map items (set loaded at more) })
    was_loaded inbox gone first chunk at runs more store waiting waiting_is read is_first is_chunk gone_is at_is runs_is more_is store_is =
        let same : first ≡ chunk = same_Some first chunk (sym is_first ∙ is_chunk) in
        let seg_is : at ≡ chunk.note.seg = at_is ∙ ap (λ (c : ChunkValue). c.note.seg) same in
        let runs_are : map items (set loaded at more) ≡ set (map items loaded) chunk.note.seg (runs_with (get_or (map items loaded) chunk.note.seg []) chunk.note) =
        seen_changed items loaded [] (λ rs. runs_with rs chunk.note) at chunk.note.seg runs more seg_is runs_is more_is in
        let after : record seen.core { inboxes = set seen.core.inboxes from gone; store = store; waiting = waiting; loaded = map items (set loaded at more) } ≡ loaded_core seen.core src chunk =
        λ k. record seen.core {
          inboxes = set seen.core.inboxes (from_is k) (gone_is k);
          store = store_is k;
          waiting = waiting_is k;
          loaded = (runs_are ∙ ap (λ rss. set rss chunk.note.seg (runs_with (get_or rss chunk.note.seg []) chunk.note)) loaded_is) k;
        } in
        record { chunk = chunk; came = came inbox chunk read is_chunk; noted = refl; after = after ∙ ap (λ (v : PartCoreValue). loaded_core v.core src chunk) view_is }

    -- where there is no room for a run all stays
    pub runs_kept : (at : ℕ) (runs more : A) (waiting : List TxnValue) → waiting ≡ seen.core.waiting → runs ≡ get_or loaded at runs → items more ≡ items runs → record seen.core { waiting = waiting; loaded = map items (set loaded at more) } ≡ now.core
    runs_kept at runs more waiting waiting_is runs_is more_is =
        (λ k. record seen.core { waiting = waiting_is k; loaded = (seen_kept items loaded at runs more runs_is more_is ∙ loaded_is) k }) ∙ ap (λ (v : PartCoreValue). v.core) view_is

    -- and where there is none for the families
    pub all_kept : (inbox back : Option ChunkValue) (at : ℕ) (runs more : A) (store : StoreValue) (waiting : List TxnValue) → waiting ≡ seen.core.waiting → inbox ≡ get_or seen.core.inboxes from inbox → back ≡ inbox → runs ≡ get_or loaded at runs → items more ≡ items runs → store ≡ seen.core.store
        → record seen.core { inboxes = set seen.core.inboxes from back; store = store; waiting = waiting; loaded = map items (set loaded at more) } ≡ now.core
    all_kept inbox back at runs more store waiting waiting_is read back_is runs_is more_is store_is =
        (λ k. record seen.core { inboxes = (ap (set seen.core.inboxes from) (back_is ∙ read) ∙ set-get_or seen.core.inboxes from inbox) k; store = store_is k; waiting = waiting_is k; loaded = (seen_kept items loaded at runs more runs_is more_is ∙ loaded_is) k })
        ∙ ap (λ (v : PartCoreValue). v.core) view_is

-- where more are due the same transactions wait
pub same_waiting : {passes : Arrival → Bool} (old new : WaitingValue) → IsMoreDue passes old new → txns_of new.arrivals ≡ txns_of old.arrivals
same_waiting {passes} old new more = ap (λ (w : WaitingValue). txns_of w.arrivals) more.more ∙ txns-due (λ a. passes a && more.some a) old.arrivals

pub same_numbering : {passes : Arrival → Bool} (old new : WaitingValue) → IsMoreDue passes old new → ◌≡◌ {A = Numbering} (record { numbers = numbers_of new.arrivals; next = new.next }) (record { numbers = numbers_of old.arrivals; next = old.next })
same_numbering {passes} old new more =
    ap (λ (w : WaitingValue). record { numbers = numbers_of w.arrivals; next = w.next }) more.more
    ∙ ap (λ numbers. record { numbers = numbers; next = old.next }) (numbers-due (λ a. passes a && more.some a) old.arrivals)

-- the partition keeps what holds of it when its chunk is loaded, whose root keys' transactions are due
pub loads_kept : {seen now : PartCoreValue} → seen ≡ now → (src : ℕ) (note : Note) (new : CoreValue) → LoadsFrom now.core src note new → (old more : WaitingValue) (covered : Note) → covered ≡ note
    → more ≡ with_due (λ a. is_between covered.lo covered.hi (a.txn).root) old → IsCore seen.core old.arrivals → IsCore new more.arrivals
loads_kept {seen} {now} view_is src note new loads old more covered covered_is more_is is =
    let same = covered_is ∙ loads.noted in
    let arrivals_are : more.arrivals ≡ map (due_if (λ a. is_between loads.chunk.note.lo loads.chunk.note.hi (a.txn).root)) old.arrivals =
    ap (λ (w : WaitingValue). w.arrivals) more_is ∙ ap (λ (n : Note). map (due_if (λ a. is_between n.lo n.hi (a.txn).root)) old.arrivals) same in
    subst (λ core. IsCore core more.arrivals) (sym loads.after)
    (subst (λ arrivals. IsCore (loaded_core now.core src loads.chunk) arrivals) (sym arrivals_are) (loaded_kept now.core src loads.chunk old.arrivals (subst (λ (v : PartCoreValue). IsCore v.core old.arrivals) view_is is)))

-- what is as it was keeps what holds of it, where more may be due
pub as_was : {passes : Arrival → Bool} {seen now : PartCoreValue} → seen ≡ now → (new : CoreValue) → new ≡ now.core → (old more : WaitingValue) → IsMoreDue passes old more → IsCore seen.core old.arrivals → IsCore new more.arrivals
as_was {passes} {seen} {now} view_is new same old more due is =
    subst (λ core. IsCore core more.arrivals) (sym same) (more_kept now.core old more due (subst (λ (v : PartCoreValue). IsCore v.core old.arrivals) view_is is))

-- those that pass are more
pub more_by : {old new : WaitingValue} (passes : Arrival → Bool) → new ≡ with_due passes old → IsMoreDue (λ a. true) old new
more_by passes is = record { some = passes; more = is }

-- where none is due that wasn't, no more are
pub none_more : (w : WaitingValue) → IsMoreDue (λ a. true) w w
none_more w = record { some = λ a. false; more = ap (λ arrivals. record w { arrivals = arrivals }) (same w.arrivals) }
  where
    or_none : (b : Bool) → b ≡ (b || false)
    or_none true = refl
    or_none false = refl

    same : (arrivals : List Arrival) → arrivals ≡ map (due_if (λ a. false)) arrivals
    same [] = refl
    same (a ∷ arrivals) = λ k. record a { is_due = or_none a.is_due k } ∷ same arrivals k

-- nor where all is as it was
pub as_due : {old new : WaitingValue} → new ≡ old → IsMoreDue (λ a. true) old new
as_due {old} same = subst (IsMoreDue (λ a. true) old) (sym same) (none_more old)
