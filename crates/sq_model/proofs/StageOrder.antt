-- On a legal trace the steps of the running stage alone are in order.
use Rattle.std.proofs.Common.{◌≡◌, ◌≢◌, inl, inr, ℕ, zero, suc, Bool, false, ◌==◌, ◌&&◌, List, [], ◌∷◌, ◌++◌, slice_get, Contains, Some, sym, ap, ap₂, ◌∙◌, subst, arith}
use Rattle.std.specs.List.{list_any}
use Rattle.std.proofs.lemmas.Bool.{cases_eq, and_parts, eqb-true, false_from_ne_true}
use Rattle.std.proofs.lemmas.List.Elements.{Contains-append_left, Contains-append_right}
use Rattle.sq_moves.specs.Status.{is_complete}
use Rattle.sq_store.specs.declared.chunk.Note.{Note}
use Rattle.sq_moves.specs.ReconValue.{stage_on}
use Rattle.sq_moves.specs.OpeningValue.{OpeningValue}
use Rattle.sq_moves.specs.Opening.{IsOpening}
use Rattle.sq_model.specs.declared.step.Step.TheVariants.{Cut, Load, Next}
use Rattle.sq_model.specs.declared.answer.Answer.TheVariants.{Done, WasCut, WasLoaded}
use Rattle.sq_model.specs.Trace.{Trace, stage, notes, loads, link}
use Rattle.sq_model.specs.Nodes.{status_of}
use Rattle.sq_model.specs.Place.{extent_of}
use Rattle.sq_model.specs.Links.{is_about, end_of_note}
use Rattle.sq_model.specs.Legal.{IsLegal}
use Rattle.sq_model.specs.Staged.{since}
use Rattle.sq_model.specs.Orderly.{IsPrefix, AreNumbered, Tiles, AreDisjoint, CoverOnce, AllLeaveComplete, IsOrderly}
use Rattle.sq_model.proofs.Lists.{Contains-first, Contains-later, any_in, nothing_found, nothing_kept}
use Rattle.sq_model.proofs.Steps.{cut_goes, load_goes, cut_is_of, load_is_of}
use Rattle.sq_model.proofs.Notes.{SegmentGoes, goes_once, note_goes, prefix, numbered, tiles_notes, leaves_complete}
use Rattle.sq_model.proofs.Tiles.{about_is}
use Rattle.sq_model.proofs.Apart.{apart, cut_once, loaded_once}
use Rattle.sq_model.proofs.Staged.{IsSince, note_stage, notes_since, loads_since, find-append_none, list_any-append_none, status_since, link_since}

-- an element of a list's beginning is in the list, at the same place
at_front : {X : Type 0} (now older : List X) (i : ℕ) (x : X) → slice_get now i ≡ Some x → slice_get (now ++ older) i ≡ Some x
at_front [] older i x at = absurd cc
at_front (y ∷ now) older zero x at = at
at_front (y ∷ now) older (suc i) x at = at_front now older i x at

-- so what holds of places in a list holds of those in its beginning
once_front : (now older : List Note) → CoverOnce (now ++ older) → CoverOnce now
once_front now older once = λ i j root one other a b c d. once i j root one other (at_front now older i one a) (at_front now older j other b) c d

apart_front : (now older : List Note) → AreDisjoint (now ++ older) → AreDisjoint now
apart_front now older disjoint = λ i j one other root a b c d. disjoint i j one other root (at_front now older i one a) (at_front now older j other b) c d

-- the beginning of notes tiles, where what follows is about other segments
tiles_front : (o : OpeningValue) (now older : List Note) → ((note other : Note) → Contains now note → Contains older other → other.seg ≢ note.seg) → Tiles o (now ++ older) → Tiles o now
tiles_front o [] older elsewhere tiles = tt
tiles_front o (note ∷ now) older elsewhere tiles =
    let about : Note → Bool = is_about note.seg note.node in
    let none : list_any about older ≡ false =
    false_from_ne_true (list_any about older) (λ any.
    let at = any_in about older any in
    elsewhere note at.0 (Contains-first note now) at.1 (about_is note.seg note.node at.0 at.2).0) in
    let none_last : list_any (λ other. about other && other.last) older ≡ false =
    false_from_ne_true (list_any (λ other. about other && other.last) older) (λ any.
    let at = any_in (λ (other : Note). about other && other.last) older any in
    elsewhere note at.0 (Contains-first note now) at.1 (about_is note.seg note.node at.0 (and_parts (about at.0) at.0.last at.2).0).0) in (
      record {
        begins = tiles.0.begins ∙ ap (end_of_note (extent_of o note.seg note.node).lo) (find-append_none about now older (nothing_found about older none));
        rises = tiles.0.rises;
        within = tiles.0.within;
        last = tiles.0.last;
        first_last = sym (list_any-append_none (λ other. about other && other.last) now older none_last) ∙ tiles.0.first_last;
      },
      tiles_front o now older (λ one other has old. elsewhere one other (Contains-later note now one has) old) tiles.1,
    )

-- a node of the running stage that isn't complete isn't so by that stage alone
unfinished_since : (o : OpeningValue) (t : Trace) → IsLegal o t → (note : Note) → SegmentGoes o note.seg note.src note.dst → stage_on o.recon note.src note.dst ≡ stage t
    → is_complete (status_of t note.seg note.node) ≡ false → is_complete (status_of (since t) note.seg note.node) ≡ false
unfinished_since o t legal note goes runs left =
    let same = ap₂ (stage_on o.recon) goes.source goes.destination in
    ap is_complete (sym (status_since o t legal note.seg note.node goes.segment goes.there (omega (arith, same, runs)))) ∙ left

complete_since : (o : OpeningValue) (t : Trace) → IsLegal o t → AllLeaveComplete t → AllLeaveComplete (since t)
complete_since o [] legal all = tt
complete_since o ((Next, Done) ∷ t) legal all = tt
complete_since o ((Cut src dst, WasCut note families) ∷ t) legal all =
    let goes = cut_goes o t src dst note families legal.0 in
    let of = cut_is_of o t src dst note families goes in (
      unfinished_since o t legal.1 note (note_goes o ((Cut src dst, WasCut note families) ∷ t) legal note (Contains-first note (notes t))) (ap₂ (stage_on o.recon) of.source of.destination ∙ goes.stage) all.0,
      complete_since o t legal.1 all.1,
    )
complete_since o ((Load src dst, WasLoaded note families) ∷ t) legal all =
    let goes = load_goes o t src dst note families legal.0 in
    let known = load_is_of o t src dst note families goes in (
      unfinished_since o t legal.1 note (note_goes o t legal.1 note known.0) (ap₂ (stage_on o.recon) known.1.source known.1.destination ∙ goes.stage) all.0,
      complete_since o t legal.1 all.1,
    )
complete_since o ((step, given) ∷ t) legal all = (tt, complete_since o t legal.1 all.1)

module _ (o : OpeningValue) (is : IsOpening o) (t : Trace) (legal : IsLegal o t) where
  abbrev now_notes : List Note
  now_notes = notes (since t)

  abbrev now_loads : List Note
  now_loads = loads (since t)

  cuts : IsSince (note_stage o) (stage t) now_notes (notes t)
  cuts = notes_since o t legal

  comes : IsSince (note_stage o) (stage t) now_loads (loads t)
  comes = loads_since o t legal

  -- the notes of the running stage are of its links
  pub of_stage : (note : Note) → Contains (notes (since t)) note → stage_on o.recon note.src note.dst ≡ stage t
  of_stage note has = cuts.here note has

  pub loads_of_stage : (note : Note) → Contains (loads (since t)) note → stage_on o.recon note.src note.dst ≡ stage t
  loads_of_stage note has = comes.here note has

  -- no note of a stage before is about a segment of this one
  elsewhere : (note other : Note) → Contains now_notes note → Contains cuts.older other → other.seg ≢ note.seg
  elsewhere note other here old = λ same.
      let a = note_goes o t legal note (subst (λ ns. Contains ns note) (sym cuts.made) (Contains-append_left now_notes cuts.older note here)) in
      let b = note_goes o t legal other (subst (λ ns. Contains ns other) (sym cuts.made) (Contains-append_right now_notes cuts.older other old)) in
      let ends = goes_once o note.seg other.src other.dst note.src note.dst (subst (λ g. SegmentGoes o g other.src other.dst) same b) a in
      let one = ap₂ (stage_on o.recon) ends.0 ends.1 in
      let now = cuts.here note here in
      let past = cuts.past other old in
      omega arith

  -- another link has none of the notes of the running stage
  nothing_on : (src dst : ℕ) → stage_on o.recon src dst ≢ stage t → (ns : List Note) → ((note : Note) → Contains ns note → stage_on o.recon note.src note.dst ≡ stage t) → link src dst ns ≡ []
  nothing_on src dst other ns here =
      let on : Note → Bool = λ note. (note.src == src) && (note.dst == dst) in
      nothing_kept on ns (false_from_ne_true (list_any on ns) (λ any.
      let at = any_in on ns any in
      let parts = and_parts (at.0.src == src) (at.0.dst == dst) at.2 in
      other (sym (ap₂ (stage_on o.recon) (eqb-true at.0.src src parts.0) (eqb-true at.0.dst dst parts.1)) ∙ here at.0 at.1)))

  pub other_notes : (src dst : ℕ) → stage_on o.recon src dst ≢ stage t → link src dst (notes (since t)) ≡ []
  other_notes src dst other = nothing_on src dst other now_notes of_stage

  pub other_loads : (src dst : ℕ) → stage_on o.recon src dst ≢ stage t → link src dst (loads (since t)) ≡ []
  other_loads src dst other = nothing_on src dst other now_loads loads_of_stage

  same_notes : (src dst : ℕ) → stage_on o.recon src dst ≡ stage t → link src dst (notes t) ≡ link src dst now_notes
  same_notes src dst runs = link_since o is t legal src dst now_notes (notes t) cuts runs

  same_loads : (src dst : ℕ) → stage_on o.recon src dst ≡ stage t → link src dst (loads t) ≡ link src dst now_loads
  same_loads src dst runs = link_since o is t legal src dst now_loads (loads t) comes runs

  prefix_since : (src dst : ℕ) → IsPrefix (since t) src dst
  prefix_since src dst =
      elim (cases_eq (stage_on o.recon src dst) (stage t)) [
        | inl runs ↦
            let whole = prefix o t legal src dst in
            (whole.0, ap (λ ns. whole.0 ++ ns) (sym (same_loads src dst runs)) ∙ whole.1 ∙ same_notes src dst runs)
        | inr other ↦ ([], other_loads src dst other ∙ sym (other_notes src dst other))
      ]

  numbered_since : (src dst : ℕ) → AreNumbered (link src dst now_notes)
  numbered_since src dst =
      elim (cases_eq (stage_on o.recon src dst) (stage t)) [
        | inl runs ↦ subst AreNumbered (same_notes src dst runs) (numbered o t legal src dst)
        | inr other ↦ subst AreNumbered (sym (other_notes src dst other)) tt
      ]

  pub orderly_since : IsOrderly o (since t)
  orderly_since = record {
    cut_once = once_front now_notes cuts.older (subst CoverOnce cuts.made (cut_once o is t legal));
    loaded_once = once_front now_loads comes.older (subst CoverOnce comes.made (loaded_once o is t legal));
    prefix = prefix_since;
    numbered = numbered_since;
    tiles = tiles_front o now_notes cuts.older elsewhere (subst (Tiles o) cuts.made (tiles_notes o t legal));
    apart = apart_front now_notes cuts.older (subst AreDisjoint cuts.made (apart o is t legal));
    complete = complete_since o t legal (leaves_complete o t legal);
  }
