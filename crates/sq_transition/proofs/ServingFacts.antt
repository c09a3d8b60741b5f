-- On a legal history a partition knows of a root key what routing it takes, and running a transaction rests on firm
-- ground.
use Rattle.std.proofs.Common.{subst, ◌≡◌, ℕ, true, sym, ap, ◌∙◌, eq-eqb}
use Rattle.std.specs.Prelude.{◌==◌, ◌&&◌, drop, reverse, slice_get, Some, None, is_some}
use Rattle.std.specs.List.{list_any}
use Rattle.std.proofs.lemmas.Bool.{and_parts, and_from, eqb-true}
use Rattle.sq_moves.specs.Node.{is_above}
use Rattle.sq_store.specs.declared.chunk.Note.{Note}
use Rattle.sq_store.specs.ChunkValue.{covers}
use Rattle.sq_moves.specs.declared.recon.Range.{Range}
use Rattle.sq_moves.specs.ReconValue.{segment_of, leaf_of}
use Rattle.sq_moves.specs.OpeningValue.{OpeningValue}
use Rattle.sq_moves.specs.Opening.{IsOpening}
use Rattle.sq_moves.proofs.Bools.{same_test}
use Rattle.sq_model.specs.Trace.{Trace, loads, load_count}
use Rattle.sq_model.specs.Nodes.{items}
use Rattle.sq_model.specs.Place.{extent_of, is_within, is_covered, is_begun_over}
use Rattle.sq_model.specs.Legal.{IsLegal}
use Rattle.sq_model.proofs.Lists.{any_in, list_any-Contains}
use Rattle.sq_model.proofs.Tiles.{tile}
use Rattle.sq_model.proofs.Notes.{prefix, tiles_loads}
use Rattle.sq_model.proofs.Keys.{IsIn, found_in_segment, moves_found, under, above_within}
use Rattle.sq_model.proofs.Apart.{covers_extent}
use Rattle.sq_model.proofs.Routing.{begun_over_none, begun_over_is, loaded_none}
use Rattle.sq_model.proofs.Places.{loaded_cut, cut_begun, runner_place, runner_away, placed_away}
use Rattle.sq_model.proofs.Waiters.{waits_for, waits-runner, went-loaded}
use Rattle.sq_model.proofs.Ended.{ended_place}
use Rattle.sq_transition.specs.Holds.{is_leaf_begun, is_key_loaded}
use Rattle.sq_transition.proofs.Locations.{InSegment, InNone, RoutingFacts}
use Rattle.sq_transition.proofs.Runs.{RunningFacts}
use Rattle.sq_transition.proofs.Folds.{FoldFacts}
use Rattle.sq_transition.proofs.Loads.{way_and_loads}
use Rattle.sq_transition.proofs.LinkFacts.{on_its_way}

module _ (o : OpeningValue) (is : IsOpening o) (t : Trace) (legal : IsLegal o t) where
  module _ (root seg : ℕ) (range : Range) (found : segment_of o.recon.segments root ≡ Some seg) (at : IsIn o root seg range) where
    -- a node that has a root key in its extent is one of the key's segment, and above its leaf
    within_is : (g n : ℕ) → is_within (extent_of o g n) root ≡ ((g == seg) && is_above n (leaf_of o.recon.width range root))
    within_is g n = same_test (is_within (extent_of o g n) root) ((g == seg) && is_above n (leaf_of o.recon.width range root)) there_is back
      where
        there_is : is_within (extent_of o g n) root ≡ true → ((g == seg) && is_above n (leaf_of o.recon.width range root)) ≡ true
        there_is within =
            let below = under o is root g n within in
            let same : g ≡ seg = let e = sym below.found ∙ found in cc in
            let segments : below.segment ≡ range = let e = sym below.there ∙ subst (λ k. slice_get o.recon.segments k ≡ Some range) (sym same) at.there in cc in
            and_from (g == seg) (is_above n (leaf_of o.recon.width range root)) (eq-eqb g seg same)
            (subst (λ (s : Range). is_above n (leaf_of o.recon.width s root) ≡ true) segments below.above)

        back : ((g == seg) && is_above n (leaf_of o.recon.width range root)) ≡ true → is_within (extent_of o g n) root ≡ true
        back both =
            let parts = and_parts (g == seg) (is_above n (leaf_of o.recon.width range root)) both in
            subst (λ k. is_within (extent_of o k n) root ≡ true) (sym (eqb-true g seg parts.0)) (above_within o is root seg n range at parts.1)

    -- so a key was given up where a begun node of its segment covers its leaf
    given_up_is : is_begun_over o t root ≡ is_leaf_begun t seg (leaf_of o.recon.width range root)
    given_up_is = λ i. list_any (λ item. within_is item.seg item.node i) (items t)

    -- and loaded where a chunk of its segment that covers it was
    loaded_by : is_covered (loads t) root ≡ is_key_loaded t seg root
    loaded_by = same_test (is_covered (loads t) root) (is_key_loaded t seg root) there_is back
      where
        there_is : is_covered (loads t) root ≡ true → is_key_loaded t seg root ≡ true
        there_is any =
            let has = any_in (λ (note : Note). covers note root) (loads t) any in
            let note = has.0 in
            let within = covers_extent o (loads t) note root (tile o (loads t) (tiles_loads o t legal) note has.1) has.2 in
            let parts = and_parts (note.seg == seg) (is_above note.node (leaf_of o.recon.width range root)) (sym (within_is note.seg note.node) ∙ within) in
            list_any-Contains (λ (other : Note). (other.seg == seg) && covers other root) (loads t) note has.1 (and_from (note.seg == seg) (covers note root) parts.0 has.2)

        back : is_key_loaded t seg root ≡ true → is_covered (loads t) root ≡ true
        back any =
            let has = any_in (λ (note : Note). (note.seg == seg) && covers note root) (loads t) any in
            list_any-Contains (λ (note : Note). covers note root) (loads t) has.0 has.1 (and_parts (has.0.seg == seg) (covers has.0 root) has.2).1

  in_segment : (root seg : ℕ) (range : Range) → segment_of o.recon.segments root ≡ Some seg → slice_get o.recon.segments seg ≡ Some range → InSegment o t root seg range
  in_segment root seg range found there =
      let at = found_in_segment o is root seg found in
      let same : at.0 ≡ range = let e = sym at.1.there ∙ there in cc in
      let here : IsIn o root seg range = subst (IsIn o root seg) same at.1 in
      record {
        comes_from = here.source_is;
        goes_to = here.destination_is;
        moving = moves_found o is root ∙ ap is_some found;
        leaf = here.leaf;
        begun = begun_over_is o is t legal root seg range found there;
        given_up = given_up_is root seg range found here;
        loaded = loaded_by root seg range found here;
      }

  in_none : (root : ℕ) → segment_of o.recon.segments root ≡ None → InNone o t root
  in_none root none = record {
    moving = moves_found o is root ∙ ap is_some none;
    begun = begun_over_none o is t legal root none;
    covered = loaded_none o is t legal root none;
  }

  pub routing_facts : RoutingFacts o t
  routing_facts = record {
    in_segment = in_segment;
    in_none = in_none;
    range = λ root seg found. let at = found_in_segment o is root seg found in (at.0, at.1.there);
    past = λ root moving went. went-loaded o is t legal root moving went;
    loaded_begun = λ root loaded. cut_begun o is t legal root (loaded_cut o is t legal root loaded);
  }

  pub running_facts : RunningFacts o t
  running_facts = record {
    routing = routing_facts;
    placed = runner_place o is t legal;
    away = λ root part runs l h i chunk at.
        runner_away o is t legal root part runs l.src l.dst (reverse (drop (load_count t l.src l.dst) l.out.notes)) (way_and_loads o t l h (prefix o t legal l.src l.dst)) chunk.note (on_its_way o t l h i chunk at);
    resumes = λ part root on gone. waits-runner o is t legal part root (waits_for o t legal part root on) gone;
  }

  pub fold_facts : FoldFacts o t
  fold_facts = record {
    placed = λ ended root. ended_place o is t legal ended root;
    away = λ root part placed l h i chunk at.
        placed_away o is t legal root part placed l.src l.dst (reverse (drop (load_count t l.src l.dst) l.out.notes)) (way_and_loads o t l h (prefix o t legal l.src l.dst)) chunk.note (on_its_way o t l h i chunk at);
  }
