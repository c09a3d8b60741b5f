-- The load of a partition is a load of its node.
use Rattle.std.proofs.Common.{◌≡◌, ⊎_elim, ℕ, ◌<◌, max, min, true, false, ◌==◌, ◌&&◌, nat_le, nat_lt, List, [], length, slice_get, Option, Some, None, refl, sym, ap, ◌∙◌, subst, true≢false, arith}
use Rattle.std.proofs.lemmas.List.{get_or_past}
use Rattle.std.specs.Prelude.{not, All}
use Rattle.std.proofs.lemmas.Bool.{cases_lt, and_parts, eqb-true, not-true, leb-true, lt-ltb, ltb-true, and_from, eq-eqb}
use Rattle.std.proofs.lemmas.Option.{slice_get_within}
use Rattle.std.proofs.lemmas.List.Elements.{All-contains}
use Rattle.sq_schema.specs.TxnValue.{TxnValue}
use Rattle.sq_schema.specs.Family.{FamilyValue}
use Rattle.sq_store.specs.StoreValue.{has_none_of}
use Rattle.sq_store.specs.declared.chunk.Note.{Note}
use Rattle.sq_store.specs.ChunkValue.{ChunkValue, covers}
use Rattle.sq_moves.specs.declared.recon.Range.{Range}
use Rattle.sq_moves.specs.ReconValue.{extent}
use Rattle.sq_moves.specs.OpeningValue.{OpeningValue}
use Rattle.sq_moves.specs.Opening.{IsOpening}
use Rattle.sq_exec.specs.declared.run.Run.{Run}
use Rattle.sq_exec.specs.Runs.{run_has, meets, is_met, runs_with}
use Rattle.sq_exec.specs.CoreValue.{CoreValue, loaded_at}
use Rattle.sq_exec.specs.Moving.{lies_in, can_load_in, LoadsFrom}
use Rattle.sq_model.specs.Place.{extent_in, extent_of}
use Rattle.sq_model.specs.Links.{goes, is_on_link}
use Rattle.sq_node_model.specs.Stages.{runs_in}
use Rattle.sq_model.proofs.Lists.{any_in, found_in, list_any-Contains}
use Rattle.sq_model.proofs.Apart.{covers_bounds}
use Rattle.sq_shared.specs.declared.view.View.{View}
use Rattle.sq_node_model.specs.BeganWith.{BeganWith}
use Rattle.sq_node_model.specs.NodeValue.{ReceiptValue}
use Rattle.sq_node_model.specs.Steps.{node_loaded}
use Rattle.sq_node_model.specs.Chunks.{HasLoaded, IsCovered}
use Rattle.sq_node_model.specs.InHolds.{HasArrived}
use Rattle.sq_node_model.specs.FamiliesHold.{IsCarried, IsOf}
use Rattle.sq_node_model.specs.NodeHolds.{NodeHolds}
use Rattle.sq_node_model.specs.Cores.{IsCoreOf, IsLoadable}
use Rattle.sq_node_model.proofs.Made.{node_with}
use Rattle.sq_node_model.proofs.Puts.{put_set}
use Rattle.sq_node_model.proofs.Keys.{arrived_within, one_segment}
use Rattle.sq_node_model.proofs.Facts.{loaded_within}
use Rattle.sq_node_model.proofs.NodeLoaded.{keeps_loaded}

-- what is known of a chunk that can be loaded
record Fits (core : CoreValue) (src : ℕ) (chunk : ChunkValue) : Type 0 where
  segment : Range
  there : slice_get core.recon.segments chunk.note.seg ≡ Some segment
  starts : segment.src ≡ src
  ends : segment.dst ≡ core.part
  lies : lies_in chunk.note (extent core.recon.width segment chunk.note.node) ≡ true
  unmet : is_met (loaded_at core chunk.note.seg) chunk.note ≡ false

fits : (core : CoreValue) (src : ℕ) (chunk : ChunkValue) (found : Option Range) → slice_get core.recon.segments chunk.note.seg ≡ found → can_load_in core src chunk found ≡ true → Fits core src chunk
fits core src chunk None there can = absurd (true≢false (sym can))
fits core src chunk (Some segment) there can =
    let keys = extent core.recon.width segment chunk.note.node in
    let met = is_met (loaded_at core chunk.note.seg) chunk.note in
    let absent = has_none_of core.store chunk.families in
    let a = and_parts (segment.src == src) ((segment.dst == core.part) && (lies_in chunk.note keys && (not met && absent))) can in
    let b = and_parts (segment.dst == core.part) (lies_in chunk.note keys && (not met && absent)) a.1 in
    let c = and_parts (lies_in chunk.note keys) (not met && absent) b.1 in
    let d = and_parts (not met) absent c.1 in
    record {
      segment = segment;
      there = there;
      starts = eqb-true segment.src src a.0;
      ends = eqb-true segment.dst core.part b.0;
      lies = c.0;
      unmet = not-true met d.0;
    }

module _ (o : OpeningValue) (i : ℕ) (old new : CoreValue) (views : ℕ → View) (sent received : ℕ → List ChunkValue) (receipts : List ReceiptValue) (src : ℕ) (note : Note) (known : IsCoreOf o i old)
    (l : LoadsFrom old src note new) (loadable : IsLoadable old src l.chunk) where
  abbrev chunk : ChunkValue
  chunk = l.chunk

  fit : Fits old src chunk
  fit = fits old src chunk (slice_get old.recon.segments chunk.note.seg) refl loadable.can

  -- the segment by the opening
  there : slice_get o.recon.segments chunk.note.seg ≡ Some fit.segment
  there = ap (λ recon. slice_get recon.segments chunk.note.seg) (sym known.recon) ∙ fit.there

  keys_are : extent old.recon.width fit.segment chunk.note.node ≡ extent_of o chunk.note.seg chunk.note.node
  keys_are = ap (λ recon. extent recon.width fit.segment chunk.note.node) known.recon ∙ ap (λ found. extent_in o.recon.width found chunk.note.node) (sym there)

  arrived : (j : ℕ) → runs_in o j src old.part ≡ true → HasArrived o j src old.part chunk.note
  arrived j runs =
      let keys = extent_of o chunk.note.seg chunk.note.node in
      let lies : lies_in chunk.note keys ≡ true = ap (lies_in chunk.note) (sym keys_are) ∙ fit.lies in
      let parts = and_parts (nat_le keys.lo chunk.note.lo) (nat_le chunk.note.hi keys.hi) lies in
      record {
        node = loadable.sound.node;
        segment =
            and_from (is_on_link o src old.part chunk.note.seg) (runs_in o j src old.part)
            (ap (λ found. goes found src old.part) there
            ∙ and_from (fit.segment.src == src) (fit.segment.dst == old.part) (eq-eqb fit.segment.src src fit.starts) (eq-eqb fit.segment.dst old.part fit.ends)) runs;
        from = leb-true keys.lo chunk.note.lo parts.0;
        upto = leb-true chunk.note.hi keys.hi parts.1;
      }

  -- a run that has one of the keys meets the chunk
  run_meets : (run : Run) (root : ℕ) → covers chunk.note root ≡ true → run_has run root ≡ true → meets chunk.note run ≡ true
  run_meets run root covered has =
      let bounds = covers_bounds chunk.note root covered in
      let low = bounds.0 in
      let high = bounds.1 in
      let parts = and_parts (nat_le run.lo root) (nat_lt root run.hi) has in
      let low' = leb-true run.lo root parts.0 in
      let high' = ltb-true root run.hi parts.1 in
      lt-ltb (max run.lo chunk.note.lo) (min run.hi chunk.note.hi) (omega arith)

  fresh : {began : BeganWith} → runs_in o began.stage src old.part ≡ true → IsOpening o → NodeHolds o began (node_with old views sent received receipts) → (root : ℕ) → covers chunk.note root ≡ true → IsCovered (HasLoaded (node_with old views sent received receipts)) root → ⊥
  fresh {began} runs is h root covered before =
      let node = node_with old views sent received receipts in
      let same = one_segment o is root before.0.note.seg before.0.note.node chunk.note.seg chunk.note.node (loaded_within o is node h before.0 root before.1 before.2) (arrived_within o began.stage src old.part chunk.note root (arrived began.stage runs) covered) in
      let run = any_in (λ (run : Run). run_has run root) (loaded_at old chunk.note.seg) (h.loaded.all_keys chunk.note.seg root (before.0, before.1, same, before.2)) in
      true≢false (sym (list_any-Contains (meets chunk.note) (loaded_at old chunk.note.seg) run.0 run.1 (run_meets run.0 root covered run.2)) ∙ fit.unmet)

  own : (root : ℕ) (family : FamilyValue) → IsCarried chunk root family → IsOf root family
  own root family carried =
      let found = found_in (λ (other : FamilyValue). other.root == root) chunk.families family carried in
      let same = eqb-true family.root root found.1 in
      let logged : All (λ (txn : TxnValue). txn.root ≡ family.root) family.log =
      All-contains (λ (other : FamilyValue). All (λ (txn : TxnValue). txn.root ≡ other.root) other.log) chunk.families family loadable.sound.keyed found.0 in
      record { same_root = same; own_log = subst (λ k. All (λ (txn : TxnValue). txn.root ≡ k) family.log) same logged }

  below : src < length old.inboxes
  below =
      ⊎_elim
      (λ (low : src < length old.inboxes). low)
      (λ past. absurd (let none = sym (get_or_past old.inboxes src None past) ∙ l.came in cc))
      (cases_lt src (length old.inboxes))

  seg_below : chunk.note.seg < length old.loaded
  seg_below = let exists = slice_get_within o.recon.segments chunk.note.seg fit.segment there in let count = known.loaded in omega (arith, exists, count)

  -- what the load does to the node
  pub loaded_is : node_with new views sent received receipts ≡ node_loaded (node_with old views sent received receipts) src chunk
  loaded_is =
      ap (λ core. node_with core views sent received receipts) l.after
      ∙ (λ i. record (node_loaded (node_with old views sent received receipts) src chunk) {
        loaded = λ seg. put_set old.loaded chunk.note.seg (runs_with (loaded_at old chunk.note.seg) chunk.note) [] seg_below seg i;
        inboxes = λ k. put_set old.inboxes src None None below k i;
      })

  pub core_loaded : {began : BeganWith} → runs_in o began.stage src old.part ≡ true → IsOpening o → NodeHolds o began (node_with old views sent received receipts) → NodeHolds o began (node_with new views sent received receipts)
  core_loaded {began} runs is h =
      subst (NodeHolds o began) (sym loaded_is)
      (keeps_loaded o is (node_with old views sent received receipts) h src chunk l.came (arrived began.stage runs) loadable.sound.rising own (fresh runs is h))
