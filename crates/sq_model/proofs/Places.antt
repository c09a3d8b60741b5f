-- On a legal trace: where a root key's family is while a note that covers it is under way, where a partition runs it,
-- and where a node continues.
use Rattle.std.proofs.Common.{◌≡◌, inl, inr, ℕ, ◌<◌, ◌≤◌, true, false, ◌&&◌, nat_le, nat_lt, if◌then◌else◌, List, [], ◌∷◌, ◌++◌, find, Contains, Option, Some, None, refl, sym, ap, ap₂, ◌∙◌, subst, true≢false, append_assoc, arith}
use Rattle.std.proofs.lemmas.Bool.{cases_Bool, and_from, le-leb, lt-ltb, le-ltb, and_right, false_from_ne_true, cond-true, cond-false}
use Rattle.std.proofs.lemmas.List.Elements.{Contains-append_left, Contains-push}
use Rattle.sq_moves.specs.Status.{is_begun}
use Rattle.sq_store.specs.declared.chunk.Note.{Note}
use Rattle.sq_store.specs.ChunkValue.{covers}
use Rattle.sq_moves.specs.declared.recon.Range.{Range}
use Rattle.sq_moves.specs.OpeningValue.{OpeningValue}
use Rattle.sq_moves.specs.Opening.{IsOpening}
use Rattle.sq_model.specs.Trace.{Trace, notes, loads, link}
use Rattle.sq_model.specs.Nodes.{Item, status_of, items}
use Rattle.sq_model.specs.Place.{At, Under_way, place, cut_place, loaded_place, source, destination, runner, is_covered, is_begun_over, extent_of, is_within}
use Rattle.sq_model.specs.Links.{reached}
use Rattle.sq_model.specs.Legal.{IsLegal}
use Rattle.sq_model.proofs.Lists.{found_in, not_found, nothing_found, list_any-Contains, any_in}
use Rattle.sq_model.proofs.Link.{link_has, Contains-link}
use Rattle.sq_model.specs.Orderly.{AreNumbered}
use Rattle.sq_model.proofs.Numbers.{number_below, number_from, numbered_rest}
use Rattle.sq_model.proofs.Statuses.{item_begun, begun_item, item_for}
use Rattle.sq_model.proofs.Tiles.{tile, reached_within}
use Rattle.sq_model.proofs.Notes.{SegmentGoes, LoadNext, numbered, note_begun, loaded_in, tiles_notes, IsOpenOn}
use Rattle.sq_model.proofs.Keys.{ends_below}
use Rattle.sq_model.proofs.Apart.{covers_extent, begun_over, one_note, found_note, note_ends}
use Rattle.sq_model.proofs.Routing.{cut_is}

module _ (o : OpeningValue) (is : IsOpening o) (t : Trace) (legal : IsLegal o t) where
  -- where the loads cover a key, the notes do
  pub loaded_cut : (root : ℕ) → is_covered (loads t) root ≡ true → is_covered (notes t) root ≡ true
  loaded_cut root any =
      let at = any_in (λ (note : Note). covers note root) (loads t) any in
      list_any-Contains (λ (note : Note). covers note root) (notes t) at.0 (loaded_in o t legal at.0 at.1) at.2

  pub uncut_unloaded : (root : ℕ) → is_covered (notes t) root ≡ false → is_covered (loads t) root ≡ false
  uncut_unloaded root uncut = false_from_ne_true (is_covered (loads t) root) (λ any. true≢false (sym (loaded_cut root any) ∙ uncut))

  -- where the notes cover a key, it was given up
  pub cut_begun : (root : ℕ) → is_covered (notes t) root ≡ true → is_begun_over o t root ≡ true
  cut_begun root any =
      let at = any_in (λ (note : Note). covers note root) (notes t) any in
      let within = covers_extent o (notes t) at.0 root (tile o (notes t) (tiles_notes o t legal) at.0 at.1) at.2 in
      list_any-Contains (λ (item : Item). is_within (extent_of o item.seg item.node) root) (items t)
      (item_for at.0.seg at.0.node (status_of t at.0.seg at.0.node)) (begun_item o t legal at.0.seg at.0.node (note_begun o t legal at.0 at.1)) within

  -- a key that no note covers is at its source
  pub uncut_home : (root : ℕ) → is_covered (notes t) root ≡ false → place o t root ≡ At (source o root)
  uncut_home root uncut =
      ap₂ (λ cut loaded. loaded_place (cut_place (source o root) cut) loaded)
      (nothing_found (λ (note : Note). covers note root) (notes t) uncut)
      (nothing_found (λ (note : Note). covers note root) (loads t) (uncut_unloaded root uncut))

  -- a note of a link that isn't loaded covers no key that is loaded
  pub way_unloaded : (src dst : ℕ) (way : List Note) → way ++ link src dst (loads t) ≡ link src dst (notes t) → (note : Note) → Contains way note → (root : ℕ) → covers note root ≡ true → is_covered (loads t) root ≡ false
  way_unloaded src dst way e note has root covered =
      false_from_ne_true (is_covered (loads t) root) (λ any.
      let at = any_in (λ (other : Note). covers other root) (loads t) any in
      let cut = link_has src dst (notes t) note (subst (λ list. Contains list note) e (Contains-append_left way (link src dst (loads t)) note has)) in
      let same : at.0 ≡ note = one_note o is t legal root at.0 note (loaded_in o t legal at.0 at.1) cut.0 at.2 covered in
      let loaded : Contains (link src dst (loads t)) note = Contains-link src dst (loads t) note (subst (Contains (loads t)) same at.1) cut.1 in
      let numbers = subst AreNumbered (sym e) (numbered o t legal src dst) in
      let low = number_from way (link src dst (loads t)) numbers note has in
      let high = number_below (link src dst (loads t)) (numbered_rest way (link src dst (loads t)) numbers) note loaded in
      omega arith)

  -- its keys are under way in its chunk
  pub way_place : (src dst : ℕ) (way : List Note) → way ++ link src dst (loads t) ≡ link src dst (notes t) → (note : Note) → Contains way note → (root : ℕ) → covers note root ≡ true → place o t root ≡ Under_way note
  way_place src dst way e note has root covered =
      let cut = link_has src dst (notes t) note (subst (λ list. Contains list note) e (Contains-append_left way (link src dst (loads t)) note has)) in
      ap₂ (λ cut loaded. loaded_place (cut_place (source o root) cut) loaded)
      (found_note o is t legal root note cut.0 covered)
      (nothing_found (λ (other : Note). covers other root) (loads t) (way_unloaded src dst way e note has root covered))

  -- a key that was loaded is at its destination
  pub loaded_away : (root : ℕ) → is_covered (loads t) root ≡ true → place o t root ≡ At (destination o root)
  loaded_away root any = among (find (λ (note : Note). covers note root) (loads t)) refl
    where
      among : (found : Option Note) → find (λ (note : Note). covers note root) (loads t) ≡ found → place o t root ≡ At (destination o root)
      among None none =
          let at = any_in (λ (note : Note). covers note root) (loads t) any in
          absurd (true≢false (sym at.2 ∙ not_found (λ (note : Note). covers note root) (loads t) none at.0 at.1))
      among (Some note) found =
          let at = found_in (λ (other : Note). covers other root) (loads t) note found in
          ap (loaded_place (cut_place (source o root) (find (λ (other : Note). covers other root) (notes t)))) found
          ∙ ap At (note_ends o is t legal root note (loaded_in o t legal note at.0) at.1).to

  -- the partition that runs a key has its family
  pub runner_place : (root part : ℕ) → runner o t root ≡ Some part → place o t root ≡ At part
  runner_place root part runs =
      elim (cases_Bool (is_covered (loads t) root)) [
        | inl loaded ↦
            let e = sym (cond-true (is_covered (loads t) root) (Some (destination o root)) (if is_begun_over o t root then None else Some (source o root)) loaded) ∙ runs in
            let same : destination o root ≡ part = cc in
            loaded_away root loaded ∙ ap At same
        | inr unloaded ↦
            let e = sym (cond-false (is_covered (loads t) root) (Some (destination o root)) (if is_begun_over o t root then None else Some (source o root)) unloaded) ∙ runs in
            elim (cases_Bool (is_begun_over o t root)) [
              | inl begun ↦ absurd (let f : None ≡ Some part = sym (cond-true (is_begun_over o t root) None (Some (source o root)) begun) ∙ e in cc)
              | inr unbegun ↦
                  let f = sym (cond-false (is_begun_over o t root) None (Some (source o root)) unbegun) ∙ e in
                  let same : source o root ≡ part = cc in
                  uncut_home root (false_from_ne_true (is_covered (notes t) root) (λ cut. true≢false (sym (cut_begun root cut) ∙ unbegun))) ∙ ap At same
            ]
      ]

  -- no note under way covers a key that is at a partition
  pub placed_away : (root part : ℕ) → place o t root ≡ At part → (src dst : ℕ) (way : List Note) → way ++ link src dst (loads t) ≡ link src dst (notes t) → (note : Note) → Contains way note → covers note root ≡ false
  placed_away root part placed src dst way e note has =
      false_from_ne_true (covers note root) (λ covered.
      let f : Under_way note ≡ At part = sym (way_place src dst way e note has root covered) ∙ placed in
      absurd cc)

  -- nor one that a partition runs
  pub runner_away : (root part : ℕ) → runner o t root ≡ Some part → (src dst : ℕ) (way : List Note) → way ++ link src dst (loads t) ≡ link src dst (notes t) → (note : Note) → Contains way note → covers note root ≡ false
  runner_away root part runs src dst way e note has = placed_away root part (runner_place root part runs) src dst way e note has

  -- what is left of an item wasn't cut, and is at its source
  pub left_uncut : (item : Item) → Contains (items t) item → (root : ℕ) → reached o item.seg item.node (notes t) ≤ root → root < (extent_of o item.seg item.node).hi → is_covered (notes t) root ≡ false
  left_uncut item has root from upto =
      let keys = extent_of o item.seg item.node in
      let low = (reached_within o (notes t) (tiles_notes o t legal) item.seg item.node).from in
      let within : is_within keys root ≡ true = and_from (nat_le keys.lo root) (nat_lt root keys.hi) (le-leb keys.lo root (omega arith)) (lt-ltb root keys.hi upto) in
      let over = begun_over o is t legal root item.seg item.node within (item_begun o t legal item has) in
      cut_is o is t legal root item.seg over.0 over.1.found over.1.at.there
      ∙ ap (λ n. is_begun (status_of t item.seg n) && nat_lt root (reached o item.seg n (notes t))) over.1.node
      ∙ and_right (is_begun (status_of t item.seg item.node)) (nat_lt root (reached o item.seg item.node (notes t))) (le-ltb root (reached o item.seg item.node (notes t)) from)

  pub left_home : (src dst : ℕ) (item : Item) → IsOpenOn o t src dst item → (root : ℕ) → reached o item.seg item.node (notes t) ≤ root → root < (extent_of o item.seg item.node).hi → place o t root ≡ At src
  left_home src dst item is_item root from upto =
      let keys = extent_of o item.seg item.node in
      let low = (reached_within o (notes t) (tiles_notes o t legal) item.seg item.node).from in
      let within : is_within keys root ≡ true = and_from (nat_le keys.lo root) (nat_lt root keys.hi) (le-leb keys.lo root (omega arith)) (lt-ltb root keys.hi upto) in
      let over = begun_over o is t legal root item.seg item.node within (item_begun o t legal item is_item.among) in
      let goes = is_item.segment in
      let same : over.0 ≡ goes.segment = let e = sym over.1.at.there ∙ goes.there in cc in
      uncut_home root (left_uncut item is_item.among root from upto) ∙ ap At (over.1.at.source_is ∙ ap (λ (s : Range). s.src) same ∙ goes.source)

  -- a chunk that is loaded next was under way
  pub next_place : (src dst : ℕ) (note : Note) → LoadNext t src dst note → (root : ℕ) → covers note root ≡ true → place o t root ≡ Under_way note
  next_place src dst note next root covered =
      way_place src dst (next.front ++ note ∷ []) (append_assoc next.front (note ∷ []) (link src dst (loads t)) ∙ next.notes_are) note (Contains-push next.front note) root covered

  -- the ends of a note, and of an open item, are partitions
  pub goes_below : (seg src dst : ℕ) → SegmentGoes o seg src dst → (src < o.old.parts) × (dst < o.old.parts)
  goes_below seg src dst goes =
      let below = ends_below o is seg goes.segment goes.there in
      (subst (λ p. p < o.old.parts) goes.source below.0, subst (λ p. p < o.old.parts) goes.destination below.1)
