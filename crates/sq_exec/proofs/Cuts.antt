-- The chunk that is cut of the work that is done next.
use Rattle.std.proofs.Common.{◌≡◌, ℕ, ◌<◌, ◌≤◌, false, List, [], ◌∷◌, ◌++◌, length, get_or, set, Some, Result, Ok, Err, sym, ap, subst, ◌∙◌, arith}
use Rattle.std.specs.Prelude.{is_some, IfOk, OnErr}
use Rattle.std.proofs.lemmas.List.{get_or_default}
use Rattle.sq_moves.specs.declared.recon.Extent.{Extent}
use Rattle.sq_moves.specs.declared.recon.Link.{Link}
use Rattle.sq_store.specs.declared.chunk.Note.{Note}
use Rattle.sq_store.specs.ChunkValue.{ChunkValue}
use Rattle.sq_store.specs.StoreValue.{StoreValue, families_between, without_between, take_end}
use Rattle.sq_store.specs.NextChunk.{next_chunk}
use Rattle.sq_exec.specs.Work.{WorkValue, next_work, no_work, work_at, work_after}
use Rattle.sq_exec.specs.OutLink.{OutLinkValue, RoomyOutLink, new_out_link, note_for, IsCut}
use Rattle.sq_exec.specs.declared.fault.CutFault.{CutFault}
use Rattle.sq_exec.specs.CoreValue.{PartCoreValue, out_at, link_to}
use Rattle.sq_exec.specs.Moving.{CutsFor}
use Rattle.sq_exec.proofs.Ends.{link_of, links_of, core_with, core_kept}
use Rattle.sq_exec.proofs.Seen.{seen_read}
use Rattle.sq_exec.proofs.Works.{next_within}

module _ (limit : ℕ) (ends : Link) (out : OutLinkValue) (store : StoreValue) (at : ℕ) where
  abbrev one : WorkValue
  one = work_at out.work at

  abbrev till : ℕ
  till = take_end store one.rest one.hi limit

  abbrev cut_chunk : ChunkValue
  cut_chunk = record { note = note_for ends out one till; families = families_between store one.rest till }

  -- the parts of a cut are those of its definition
  is_cut : (chunk : ChunkValue) (note noted : Note) (notes : List Note) (works : List WorkValue) (left : StoreValue) → is_some out.outbox ≡ false → next_work out.work ≡ Some at
      → chunk ≡ cut_chunk → note ≡ chunk.note → noted ≡ chunk.note → notes ≡ out.notes ++ noted ∷ [] → works ≡ work_after out.work at note.hi → left ≡ without_between store one.rest till
      → one.rest ≤ till → till ≤ one.hi → IsCut limit ends out store note (record { notes = notes; work = works; outbox = Some chunk }) left
  is_cut chunk note noted notes works left empty next chunk_is note_by noted_by notes_by works_by left_is rises within =
      let note_is : note ≡ note_for ends out one till = note_by ∙ ap (λ (c : ChunkValue). c.note) chunk_is in
      let noted_is : noted ≡ note_for ends out one till = noted_by ∙ ap (λ (c : ChunkValue). c.note) chunk_is in
      let notes_is : notes ≡ out.notes ++ note_for ends out one till ∷ [] = notes_by ∙ ap (λ n. out.notes ++ n ∷ []) noted_is in
      let works_is : works ≡ work_after out.work at till = works_by ∙ ap (λ (n : Note). work_after out.work at n.hi) note_is in
      let lo_is : note.lo ≡ one.rest = ap (λ (n : Note). n.lo) note_is in
      let hi_is : note.hi ≡ till = ap (λ (n : Note). n.hi) note_is in
      record {
        place = at;
        empty = empty;
        next = next;
        cut = λ k. (note_is k, (record { notes = notes_is k; work = works_is k; outbox = Some (chunk_is k) }, left_is k));
        rises = omega (arith, rises, lo_is, hi_is);
        within = omega (arith, within, hi_is);
      }

  -- the chunk that was cut of what is left of the work is the one of the definition
  pub was_cut : (now : OutLinkValue) (work : WorkValue) (rest : Extent) (kept : List Note) (base : Note) (chunk : ChunkValue) (note noted : Note) (notes : List Note) (works : List WorkValue) (left : StoreValue)
      → out ≡ now → is_some out.outbox ≡ false → Some at ≡ next_work out.work → work ≡ get_or out.work at work → rest.lo ≡ work.rest → rest.hi ≡ work.hi
      → kept ≡ out.notes → base ≡ record (note_for ends (record out { notes = kept }) work work.rest) { last = false } → chunk ≡ next_chunk store base rest limit
      → left ≡ without_between store rest.lo chunk.note.hi → rest.lo ≤ chunk.note.hi → chunk.note.hi ≤ rest.hi
      → note ≡ chunk.note → noted ≡ chunk.note → notes ≡ kept ++ noted ∷ [] → works ≡ work_after out.work at note.hi
      → IsCut limit ends now store note (record { notes = notes; work = works; outbox = Some chunk }) left
  was_cut now work rest kept base chunk note noted notes works left same empty next at_is rest_by hi_by kept_is base_by chunk_by left_by rises within note_by noted_by notes_by works_by =
      let work_is : work ≡ one = at_is ∙ get_or_default out.work at work no_work (next_within out.work at (sym next)) in
      let rest_is : rest.lo ≡ one.rest = rest_by ∙ ap (λ (w : WorkValue). w.rest) work_is in
      let hi_is : rest.hi ≡ one.hi = hi_by ∙ ap (λ (w : WorkValue). w.hi) work_is in
      let base_is : base ≡ record (note_for ends out one one.rest) { last = false } =
      base_by ∙ (λ k. record (note_for ends (record out { notes = kept_is k }) (work_is k) (work_is k).rest) { last = false }) in
      let chunk_is : chunk ≡ cut_chunk = chunk_by ∙ (λ k. next_chunk store (base_is k) (record { lo = rest_is k; hi = hi_is k }) limit) in
      let left_is : left ≡ without_between store one.rest till = left_by ∙ (λ k. without_between store (rest_is k) (chunk_is k).note.hi) in
      let high : chunk.note.hi ≡ till = ap (λ (c : ChunkValue). c.note.hi) chunk_is in
      subst (λ (o : OutLinkValue). IsCut limit ends o store note (record { notes = notes; work = works; outbox = Some chunk }) left) same
      (is_cut chunk note noted notes works left empty (sym next) chunk_is note_by noted_by (notes_by ∙ ap (λ ns. ns ++ noted ∷ []) kept_is) works_by left_is (omega (arith, rises, rest_is, high)) (omega (arith, within, high, hi_is)))

-- a partition whose end of a link was cut for has cut
pub core_cut : {seen now : PartCoreValue} → seen ≡ now → (outs : List RoomyOutLink) → links_of outs ≡ seen.core.outs → (i dst : ℕ) (out after : RoomyOutLink) (left : StoreValue) (result : Result Note CutFault)
    → i ≡ dst → i < length outs → out ≡ get_or outs i out → IfOk result (λ note. IsCut seen.core.limit (link_to seen.core dst) out.link seen.core.store note after.link left)
    → IfOk result (λ note. CutsFor now.core dst note (record seen.core { outs = links_of (set outs i after); store = left }))
core_cut {seen} {now} view_is outs outs_is i dst out after left (Err fault) same lt read cut = tt
core_cut {seen} {now} view_is outs outs_is i dst out after left (Ok note) same lt read cut =
    let out_is : out.link ≡ out_at seen.core dst = seen_read link_of outs i out new_out_link lt read ∙ (λ k. get_or (outs_is k) (same k) new_out_link) in
    record {
      out = after.link;
      store = left;
      cut = subst (λ (v : PartCoreValue). IsCut v.core.limit (link_to v.core dst) (out_at v.core dst) v.core.store note after.link left) view_is
          (subst (λ o. IsCut seen.core.limit (link_to seen.core dst) o seen.core.store note after.link left) out_is cut);
      after = core_with view_is outs outs_is left i dst after same;
    }

-- a partition whose end of a link refused to cut is as it was
pub core_uncut : {seen now : PartCoreValue} → seen ≡ now → (outs : List RoomyOutLink) → links_of outs ≡ seen.core.outs → (i : ℕ) (out after : RoomyOutLink) (left : StoreValue) (result : Result Note CutFault)
    → out ≡ get_or outs i out → OnErr result ((after.link ≡ out.link) × (left ≡ seen.core.store)) → OnErr result (record seen.core { outs = links_of (set outs i after); store = left } ≡ now.core)
core_uncut {seen} {now} view_is outs outs_is i out after left (Ok note) read kept = tt
core_uncut {seen} {now} view_is outs outs_is i out after left (Err fault) read kept = core_kept view_is outs outs_is left kept.1 i out after read kept.0
