-- A chunk that came to its destination can be loaded.
use Rattle.std.proofs.Common.{⊎_elim, inl, inr, ◌≡◌, ℕ, Bool, true, false, List, [], ◌∷◌, refl, sym, ap, ◌∙◌, arith, true≢false}
use Rattle.std.specs.Prelude.{◌<◌, ◌≤◌, ◌==◌, ◌&&◌, ◌||◌, if◌then◌else◌, not, nat_le, nat_lt, max, min, slice_get, Some, None, is_some}
use Rattle.std.specs.List.{list_any}
use Rattle.std.proofs.Math.Bool.{or-true}
use Rattle.std.proofs.lemmas.Bool.{cases_Bool, eq-eqb, and_from, and_parts, or_cases, le-leb}
use Rattle.std.proofs.lemmas.Bool.Decides.{nat_tests}
use Rattle.sq_schema.specs.Family.{FamilyValue}
use Rattle.sq_store.specs.declared.chunk.Note.{Note}
use Rattle.sq_store.specs.ChunkValue.{ChunkValue, covers}
use Rattle.sq_store.specs.StoreValue.{has_none_of}
use Rattle.sq_store.proofs.Given.{has_none_of-from_each}
use Rattle.sq_moves.specs.declared.recon.Range.{Range}
use Rattle.sq_moves.specs.ReconValue.{extent}
use Rattle.sq_moves.specs.OpeningValue.{OpeningValue}
use Rattle.sq_moves.specs.Opening.{IsOpening}
use Rattle.sq_exec.specs.declared.run.Run.{Run}
use Rattle.sq_exec.specs.Runs.{meets, run_has, is_loaded, is_met}
use Rattle.sq_exec.specs.CoreValue.{loaded_at}
use Rattle.sq_exec.specs.Moving.{lies_in, can_load, can_load_in}
use Rattle.sq_model.specs.Trace.{Trace, loads}
use Rattle.sq_model.specs.Tables.{stands, family_of}
use Rattle.sq_model.specs.Place.{At, Under_way, place, destination, is_covered, extent_in}
use Rattle.sq_model.specs.Legal.{IsLegal}
use Rattle.sq_model.proofs.Tiles.{reached_within}
use Rattle.sq_model.proofs.Notes.{LoadNext, note_goes, next_has, next_goes, tiles_loads}
use Rattle.sq_model.proofs.Places.{next_place, loaded_away}
use Rattle.sq_transition.specs.WorldValue.{WorldValue, core_at}
use Rattle.sq_transition.specs.Holds.{Holds, ChunkHolds, is_at, is_key_loaded}
use Rattle.sq_transition.proofs.Parts.{share_none}

-- a run that the chunk meets has one of its keys
met_key : (run : Run) (note : Note) → meets note run ≡ true → (run_has run (max run.lo note.lo) ≡ true) × (covers note (max run.lo note.lo) ≡ true)
met_key run note met = (here run.lo note.lo run.hi note.hi met, there run.lo note.lo run.hi note.hi met)
  where
    here : (a b c d : ℕ) → nat_lt (max a b) (min c d) ≡ true → (nat_le a (max a b) && nat_lt (max a b) c) ≡ true
    here a b c d met = grind (arith, nat_tests)

    there : (a b c d : ℕ) → nat_lt (max a b) (min c d) ≡ true → (nat_le b (max a b) && nat_lt (max a b) d) ≡ true
    there a b c d met = grind (arith, nat_tests)

-- loaded runs that the chunk meets have one of its keys
met_loaded : (runs : List Run) (note : Note) → is_met runs note ≡ true → (root : ℕ) × (is_loaded runs root ≡ true) × (covers note root ≡ true)
met_loaded [] note met = absurd (true≢false (sym met))
met_loaded (run ∷ runs) note met =
    ⊎_elim
    (λ (first : meets note run ≡ true).
    let key = met_key run note first in
    (max run.lo note.lo, ap (λ b. b || is_loaded runs (max run.lo note.lo)) key.0, key.1))
    (λ (later : is_met runs note ≡ true).
    let key = met_loaded runs note later in
    (key.0, ap (λ b. run_has run key.0 || b) key.1 ∙ or-true (run_has run key.0), key.2))
    (or_cases (meets note run) (is_met runs note) met)

-- a note of a segment that covers a key is one that covers it
of_segment : (seg root : ℕ) (ns : List Note) → list_any (λ note. (note.seg == seg) && covers note root) ns ≡ true → is_covered ns root ≡ true
of_segment seg root [] has = has
of_segment seg root (note ∷ ns) has =
    ⊎_elim
    (λ (first : ((note.seg == seg) && covers note root) ≡ true). ap (λ b. b || is_covered ns root) (and_parts (note.seg == seg) (covers note root) first).1)
    (λ (later : list_any (λ note. (note.seg == seg) && covers note root) ns ≡ true). ap (λ b. covers note root || b) (of_segment seg root ns later) ∙ or-true (covers note root))
    (or_cases ((note.seg == seg) && covers note root) (list_any (λ note. (note.seg == seg) && covers note root) ns) has)

at_or_way : (part : ℕ) (note : Note) → At part ≡ Under_way note → ⊥
at_or_way part note e = cc

module _ (o : OpeningValue) (t : Trace) (w : WorldValue) (is : IsOpening o) (legal : IsLegal o t) (h : Holds o t w) where
  -- a root key of a chunk that comes is nowhere
  stands_away : (dst : ℕ) (chunk : ChunkValue) → dst < o.old.parts → ChunkHolds o t chunk → ((root : ℕ) → covers chunk.note root ≡ true → place o t root ≡ Under_way chunk.note)
      → has_none_of (core_at w dst).store chunk.families ≡ true
  stands_away dst chunk below holds away =
      has_none_of-from_each (core_at w dst).store chunk.families (λ root there.
      let covered : covers chunk.note root ≡ true = of_share (stands o t root) (covers chunk.note root) (family_of o t root) (sym (ap is_some (holds.families root)) ∙ there) in
      (h.partitions.each dst below).store root ∙ share_none o t (λ key. is_at dst (place o t key)) root (ap (is_at dst) (away root covered)))
    where
      of_share : (a b : Bool) (f : FamilyValue) → is_some (if a && b then Some f else None) ≡ true → b ≡ true
      of_share true true f e = refl
      of_share true false f e = absurd (true≢false (sym e))
      of_share false b f e = absurd (true≢false (sym e))

  -- none of its keys is loaded
  unmet : (src dst : ℕ) (note : Note) (range : Range) → dst < o.old.parts → LoadNext t src dst note → slice_get o.recon.segments note.seg ≡ Some range → range.dst ≡ dst
      → is_met (loaded_at (core_at w dst) note.seg) note ≡ false
  unmet src dst note range below next there to =
      elim (cases_Bool (is_met (loaded_at (core_at w dst) note.seg) note)) [
        | inl met ↦
            let key = met_loaded (loaded_at (core_at w dst) note.seg) note met in
            let told : is_key_loaded t note.seg key.0 ≡ true = sym ((h.partitions.each dst below).moves.loaded note.seg key.0 (range, there, to)) ∙ key.1 in
            let covered = of_segment note.seg key.0 (loads t) told in
            absurd (at_or_way (destination o key.0) note (sym (loaded_away o is t legal key.0 covered) ∙ next_place o is t legal src dst note next key.0 key.2))
        | inr none ↦ none
      ]

  pub loadable : (src dst : ℕ) (chunk : ChunkValue) → dst < o.old.parts → LoadNext t src dst chunk.note → ChunkHolds o t chunk → can_load (core_at w dst) src chunk ≡ true
  loadable src dst chunk below next holds =
      let note = chunk.note in
      let core = core_at w dst in
      let set = (h.partitions.each dst below).set in
      let has = next_has t src dst note next in
      let goes = note_goes o t legal note has.0 in
      let tile = next_goes o t legal src dst note next in
      let within = reached_within o (loads t) (tiles_loads o t legal) note.seg note.node in
      let found : slice_get core.recon.segments note.seg ≡ Some goes.segment = (λ i. slice_get (set.recon i).segments note.seg) ∙ goes.there in
      let keys : extent_in o.recon.width (slice_get o.recon.segments note.seg) note.node ≡ extent core.recon.width goes.segment note.node =
      ap (λ found. extent_in o.recon.width found note.node) goes.there ∙ ap (λ recon. extent recon.width goes.segment note.node) (sym set.recon) in
      let low : (extent core.recon.width goes.segment note.node).lo ≤ note.lo = let k = ap (λ e. e.lo) keys in omega (arith, within.from, tile.begins, k) in
      let high : note.hi ≤ (extent core.recon.width goes.segment note.node).hi = let k = ap (λ e. e.hi) keys in omega (arith, tile.within, k) in
      ap (can_load_in core src chunk) found
      ∙ and_from (goes.segment.src == src) _ (eq-eqb goes.segment.src src (goes.source ∙ has.1.source))
      (and_from (goes.segment.dst == core.part) _ (eq-eqb goes.segment.dst core.part (goes.destination ∙ has.1.destination ∙ sym set.part))
      (and_from (lies_in note (extent core.recon.width goes.segment note.node)) _ (and_from (nat_le (extent core.recon.width goes.segment note.node).lo note.lo) _ (le-leb _ _ low) (le-leb _ _ high))
      (and_from (not (is_met (loaded_at core note.seg) note)) _ (ap not (unmet src dst note goes.segment below next goes.there (goes.destination ∙ has.1.destination)))
      (stands_away dst chunk below holds (next_place o is t legal src dst note next)))))
