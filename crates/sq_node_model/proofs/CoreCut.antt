-- The cut of a partition is a cut of its node.
use Rattle.std.proofs.Common.{◌≡◌, ℕ, ◌≤◌, ◌<◌, false, List, [], ◌∷◌, ◌++◌, length, Option, Some, None, refl, sym, ap, ◌∙◌, subst, ⊎_elim, true≢false, arith}
use Rattle.std.proofs.lemmas.List.{get_or_past}
use Rattle.std.specs.Prelude.{is_some}
use Rattle.std.proofs.lemmas.Bool.{cases_lt}
use Rattle.std.proofs.lemmas.Option.{slice_get-get_or}
use Rattle.sq_store.specs.declared.chunk.Note.{Note}
use Rattle.sq_store.specs.ChunkValue.{ChunkValue}
use Rattle.sq_store.specs.StoreValue.{StoreValue, families_between, without_between, take_end}
use Rattle.sq_moves.specs.OpeningValue.{OpeningValue}
use Rattle.sq_moves.specs.Opening.{IsOpening}
use Rattle.sq_exec.specs.Work.{WorkValue, no_work, work_at, work_after}
use Rattle.sq_exec.specs.OutLink.{OutLinkValue, new_out_link, note_for}
use Rattle.sq_exec.specs.CoreValue.{CoreValue, out_at, link_to}
use Rattle.sq_exec.specs.Moving.{CutsFor}
use Rattle.sq_exec.proofs.Works.{next_within}
use Rattle.sq_shared.specs.declared.view.View.{View}
use Rattle.sq_node_model.specs.BeganWith.{BeganWith}
use Rattle.sq_node_model.specs.NodeValue.{ReceiptValue}
use Rattle.sq_node_model.specs.Steps.{node_cut}
use Rattle.sq_node_model.specs.NodeHolds.{NodeHolds}
use Rattle.sq_node_model.proofs.Made.{node_with}
use Rattle.sq_node_model.proofs.Puts.{put_set}
use Rattle.sq_node_model.proofs.Outs.{IsNoteOf}
use Rattle.sq_node_model.proofs.NodeCut.{keeps_cut}

-- what is past the end of a list
-- an end that isn't new is the end of a link to a partition
pub out_below : (core : CoreValue) (dst : ℕ) → (out_at core dst ≡ new_out_link → ⊥) → dst < length core.outs
out_below core dst used =
    ⊎_elim (λ (below : dst < length core.outs). below) (λ past. absurd (used (get_or_past core.outs dst new_out_link past))) (cases_lt dst (length core.outs))

none_there : (box : Option ChunkValue) → is_some box ≡ false → box ≡ None
none_there None e = refl
none_there (Some chunk) e = absurd (true≢false e)

module _ (old new : CoreValue) (views : ℕ → View) (sent received : ℕ → List ChunkValue) (receipts : List ReceiptValue) (dst : ℕ) (note : Note) (c : CutsFor old dst note new) where
  abbrev ends : OutLinkValue
  ends = out_at old dst

  abbrev place : ℕ
  place = c.cut.place

  abbrev work : WorkValue
  work = work_at ends.work place

  abbrev made : Note
  made = note_for (link_to old dst) ends work (take_end old.store work.rest work.hi old.limit)

  abbrev chunk : ChunkValue
  chunk = record { note = made; families = families_between old.store made.lo made.hi }

  abbrev out : OutLinkValue
  out = record { notes = ends.notes ++ made ∷ []; work = work_after ends.work place made.hi; outbox = Some chunk }

  abbrev left : StoreValue
  left = without_between old.store made.lo made.hi

  note_is : note ≡ made
  note_is = ap (λ (cut : Note × (OutLinkValue × StoreValue)). cut.0) c.cut.cut

  out_is : c.out ≡ out
  out_is = ap (λ (cut : Note × (OutLinkValue × StoreValue)). cut.1.0) c.cut.cut

  store_is : c.store ≡ left
  store_is = ap (λ (cut : Note × (OutLinkValue × StoreValue)). cut.1.1) c.cut.cut

  within : place < length ends.work
  within = next_within ends.work place c.cut.next

  below : dst < length old.outs
  below = out_below old dst (λ fresh. let none = ap (λ (end : OutLinkValue). length end.work) fresh in let there = within in omega (arith, there, none))

  -- what the cut does to the node
  pub cut_is : node_with new views sent received receipts ≡ node_cut (node_with old views sent received receipts) dst c.out c.store
  cut_is =
      ap (λ core. node_with core views sent received receipts) c.after
      ∙ (λ i. record (node_with old views sent received receipts) { store = c.store; outs = λ d. put_set old.outs dst c.out new_out_link below d i })

  next_note : IsNoteOf old.part dst (length ends.notes) work made
  next_note = assumption (subst (λ (n : Note). n.lo ≤ n.hi) note_is c.cut.rises, subst (λ (n : Note). n.hi ≤ work.hi) note_is c.cut.within)

  pub core_cut : {began : BeganWith} (o : OpeningValue) → IsOpening o → NodeHolds o began (node_with old views sent received receipts) → NodeHolds o began (node_with new views sent received receipts)
  core_cut {began} o is h =
      subst (NodeHolds o began) (sym (cut_is ∙ (λ i. node_cut (node_with old views sent received receipts) dst (out_is i) (store_is i))))
      (keeps_cut o is (node_with old views sent received receipts) h dst place work chunk (slice_get-get_or ends.work place no_work within) (none_there ends.outbox c.cut.empty) next_note refl)
