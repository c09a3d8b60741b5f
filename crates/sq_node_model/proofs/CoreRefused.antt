-- A chunk that came and belongs here can be loaded, unless one of its keys was loaded.
use Rattle.std.proofs.Common.{◌≡◌, ⊎_elim, ℕ, max, min, Bool, true, false, ◌==◌, ◌&&◌, nat_le, nat_lt, List, [], ◌∷◌, slice_get, Option, Some, None, refl, sym, ap, ◌∙◌, eq-eqb, true≢false, Contains, arith}
use Rattle.std.specs.Prelude.{not, is_none}
use Rattle.std.specs.Option.{option_map_or}
use Rattle.std.specs.FinMap.{get}
use Rattle.std.proofs.lemmas.Bool.{and_from, le-leb, lt-ltb, ltb-true}
use Rattle.sq_schema.specs.Family.{FamilyValue}
use Rattle.sq_store.specs.StoreValue.{StoreValue, family_in, has_none_of}
use Rattle.sq_store.specs.ChunkValue.{ChunkValue, IsChunk, covers}
use Rattle.sq_moves.specs.ReconValue.{ReconValue, extent}
use Rattle.sq_moves.specs.OpeningValue.{OpeningValue}
use Rattle.sq_moves.specs.Opening.{IsOpening}
use Rattle.sq_exec.specs.declared.run.Run.{Run}
use Rattle.sq_exec.specs.Runs.{run_has, meets, is_met}
use Rattle.sq_exec.specs.CoreValue.{CoreValue, inbox_at, loaded_at}
use Rattle.sq_exec.specs.Moving.{lies_in, can_load, can_load_in, may_load}
use Rattle.sq_model.specs.Place.{extent_in, extent_of}
use Rattle.sq_model.proofs.Lists.{Contains-first, Contains-later, any_in, not_found, list_any-Contains}
use Rattle.sq_model.proofs.Notes.{SegmentGoes}
use Rattle.sq_node_model.proofs.Staged.{on_link_goes}
use Rattle.sq_shared.specs.declared.view.View.{View}
use Rattle.sq_node_model.specs.BeganWith.{BeganWith}
use Rattle.sq_node_model.specs.NodeValue.{ReceiptValue, NodeValue}
use Rattle.sq_node_model.specs.InHolds.{HasArrived}
use Rattle.sq_node_model.specs.NodeHolds.{NodeHolds}
use Rattle.sq_node_model.specs.Cores.{IsCoreOf, OverlapsLoaded}
use Rattle.sq_node_model.proofs.Made.{node_with}
use Rattle.sq_node_model.proofs.Keys.{arrived_within, not_owned}
use Rattle.sq_node_model.proofs.Carried.{carried_covered}

-- one of the families' root keys has a family in the store
some_stands : (store : StoreValue) (families : List FamilyValue) → has_none_of store families ≡ false → (family : FamilyValue) × Contains families family × (is_none (get store family.root) ≡ false)
some_stands store [] e = absurd (true≢false e)
some_stands store (family ∷ families) e = by (λ later. some_stands store families later) (is_none (get store family.root)) refl
  where
    by : (has_none_of store families ≡ false → (found : FamilyValue) × Contains families found × (is_none (get store found.root) ≡ false)) → (b : Bool) → is_none (get store family.root) ≡ b → (found : FamilyValue) × Contains (family ∷ families) found × (is_none (get store found.root) ≡ false)
    by rest false is = (family, Contains-first family families, is)
    by rest true is =
        let later = rest (sym (ap (λ b. b && has_none_of store families) is) ∙ e) in
        (later.0, Contains-later family families later.0 later.1, later.2)

module _ {began : BeganWith} (o : OpeningValue) (is : IsOpening o) (core : CoreValue) (views : ℕ → View) (sent received : ℕ → List ChunkValue) (receipts : List ReceiptValue) (known : IsCoreOf o began.stage core)
    (h : NodeHolds o began (node_with core views sent received receipts)) (src : ℕ) (chunk : ChunkValue) (sound : IsChunk chunk) (arrived : HasArrived o began.stage src core.part chunk.note) where
  abbrev node : NodeValue
  node = node_with core views sent received receipts

  -- a run that it meets has such a key
  met : is_met (loaded_at core chunk.note.seg) chunk.note ≡ true → OverlapsLoaded node chunk
  met e =
      let found = any_in (meets chunk.note) (loaded_at core chunk.note.seg) e in
      let run = found.0 in
      let low = max run.lo chunk.note.lo in
      let below = ltb-true low (min run.hi chunk.note.hi) found.2 in
      let in_run : run_has run low ≡ true = and_from (nat_le run.lo low) (nat_lt low run.hi) (le-leb run.lo low (omega arith)) (lt-ltb low run.hi (omega arith)) in
      let loaded = h.loaded.keys chunk.note.seg low (list_any-Contains (λ (r : Run). run_has r low) (loaded_at core chunk.note.seg) run found.1 in_run) in
      (low, and_from (nat_le chunk.note.lo low) (nat_lt low chunk.note.hi) (le-leb chunk.note.lo low (omega arith)) (lt-ltb low chunk.note.hi (omega arith)), (loaded.0, loaded.1, loaded.3))

  -- the chunk covers the root keys of its families
  family_covered : (family : FamilyValue) → Contains chunk.families family → covers chunk.note family.root ≡ true
  family_covered family has = by (family_in chunk.families family.root) refl
    where
      by : (found : Option FamilyValue) → family_in chunk.families family.root ≡ found → covers chunk.note family.root ≡ true
      by (Some other) e = carried_covered chunk family.root other sound.rising e
      by None e = absurd (true≢false (sym (eq-eqb family.root family.root refl) ∙ not_found (λ (other : FamilyValue). other.root == family.root) chunk.families e family has))

  -- a family that is at a key that comes here was loaded
  stood : has_none_of core.store chunk.families ≡ false → OverlapsLoaded node chunk
  stood e =
      let found = some_stands core.store chunk.families e in
      let family = found.0 in
      by family (family_covered family found.1) (get core.store family.root) refl found.2
    where
      by : (family : FamilyValue) → covers chunk.note family.root ≡ true → (stands : Option FamilyValue) → get core.store family.root ≡ stands → is_none (get core.store family.root) ≡ false → OverlapsLoaded node chunk
      by family covered None stands some = absurd (true≢false (sym (ap is_none stands) ∙ some))
      by family covered (Some here) stands some =
          ⊎_elim
          (λ home. absurd (not_owned o is began.stage family.root chunk.note.seg chunk.note.node src core.part (arrived_within o began.stage src core.part chunk.note family.root arrived covered) arrived.segment home.owned))
          (λ loaded. (family.root, covered, loaded))
          (h.store.stored family.root here stands)

  goes : SegmentGoes o chunk.note.seg src core.part
  goes = on_link_goes o began.stage src core.part chunk.note.seg arrived.segment

  there : slice_get core.recon.segments chunk.note.seg ≡ Some goes.segment
  there = ap (λ (recon : ReconValue). slice_get recon.segments chunk.note.seg) known.recon ∙ goes.there

  keys_are : extent core.recon.width goes.segment chunk.note.node ≡ extent_of o chunk.note.seg chunk.note.node
  keys_are = ap (λ (recon : ReconValue). extent recon.width goes.segment chunk.note.node) known.recon ∙ ap (λ found. extent_in o.recon.width found chunk.note.node) (sym goes.there)

  lies : lies_in chunk.note (extent core.recon.width goes.segment chunk.note.node) ≡ true
  lies =
      let keys = extent_of o chunk.note.seg chunk.note.node in
      ap (lies_in chunk.note) keys_are
      ∙ and_from (nat_le keys.lo chunk.note.lo) (nat_le chunk.note.hi keys.hi) (le-leb keys.lo chunk.note.lo arrived.from) (le-leb chunk.note.hi keys.hi arrived.upto)

  pub came_loaded : inbox_at core src ≡ Some chunk → may_load core src ≡ false → OverlapsLoaded node chunk
  came_loaded came cannot = by (is_met (loaded_at core chunk.note.seg) chunk.note) refl (has_none_of core.store chunk.families) refl
    where
      refused : can_load_in core src chunk (Some goes.segment) ≡ false
      refused = ap (can_load_in core src chunk) (sym there) ∙ ap (λ (inbox : Option ChunkValue). option_map_or (can_load core src) inbox false) (sym came) ∙ cannot

      by : (m : Bool) → is_met (loaded_at core chunk.note.seg) chunk.note ≡ m → (a : Bool) → has_none_of core.store chunk.families ≡ a → OverlapsLoaded node chunk
      by true e a e' = met e
      by false e false e' = stood e'
      by false e true e' =
          let at = lies_in chunk.note (extent core.recon.width goes.segment chunk.note.node) in
          let rest = not (is_met (loaded_at core chunk.note.seg) chunk.note) && has_none_of core.store chunk.families in
          let free : rest ≡ true = and_from (not (is_met (loaded_at core chunk.note.seg) chunk.note)) (has_none_of core.store chunk.families) (ap not e) e' in
          let can : can_load_in core src chunk (Some goes.segment) ≡ true =
          and_from (goes.segment.src == src) ((goes.segment.dst == core.part) && (at && rest)) (eq-eqb goes.segment.src src goes.source)
          (and_from (goes.segment.dst == core.part) (at && rest) (eq-eqb goes.segment.dst core.part goes.destination) (and_from at rest lies free)) in
          absurd (true≢false (sym can ∙ refused))
