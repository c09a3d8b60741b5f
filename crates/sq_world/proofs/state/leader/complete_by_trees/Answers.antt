use Rattle.std.proofs.Common.{◌≡◌, ℕ, ◌+◌, ◌<◌, IsTrue, ◌↔◌, Bool, true, false, List, [], length, refl, ap, ◌∙◌, arith, below_more, get_or-set_same, get_or-set_other}
use Rattle.std.specs.Prelude.{slice_set, slice_index_or}
use Rattle.std.proofs.lemmas.List.{length-set, get_or_default}
use Rattle.sq_leader.specs.Segments.{is_marked_complete}
use Rattle.sq_moves.specs.declared.segment.TheConstants.{SEGMENT_LIMIT}
use Rattle.sq_moves.specs.declared.status.Reading.{Reading}
use Rattle.sq_moves.specs.declared.status.Reading.TheVariants.{NotStarted, Partial, Complete}
use Rattle.sq_moves.specs.declared.status.Status.{Status}
use Rattle.sq_moves.specs.Status.{reading}
use Rattle.sq_moves.specs.Tree.{status_at}
use Rattle.sq_moves.specs.Reading.{is_complete_reading}
use Rattle.sq_world.proofs.state.leader.complete_by_trees.Goals as goal

-- what reads complete is whole
tells_complete : (b : Bool) (r : Reading) → (IsTrue b ↔ (r ≡ Complete)) → b ≡ is_complete_reading r
tells_complete true Complete tells = refl
tells_complete true NotStarted tells = let same : NotStarted ≡ Complete = tells.0 refl in cc
tells_complete true Partial tells = let same : Partial ≡ Complete = tells.0 refl in cc
tells_complete false Complete tells = tells.1 refl
tells_complete false NotStarted tells = refl
tells_complete false Partial tells = refl

-- one more segment has its entry
told_next : (trees : List (List Status)) (whole : List Bool) (seg : ℕ) (tree : List Status) (b : Bool) → length whole ≡ SEGMENT_LIMIT → seg < SEGMENT_LIMIT → seg < length trees → tree ≡ slice_index_or trees seg tree
    → (IsTrue b ↔ (reading (status_at tree) 1 ≡ Complete))
    → ((k : ℕ) → k < seg → is_marked_complete whole k ≡ is_complete_reading (reading (status_at (slice_index_or trees k [])) 1))
    → (k : ℕ) → k < seg + 1 → is_marked_complete (slice_set whole seg b) k ≡ is_complete_reading (reading (status_at (slice_index_or trees k [])) 1)
told_next trees whole seg tree b room few there is tells before =
    below_more (λ k. is_marked_complete (slice_set whole seg b) k ≡ is_complete_reading (reading (status_at (slice_index_or trees k [])) 1)) seg
    (λ k low. get_or-set_other whole seg k b false (omega arith) ∙ before k low)
    (get_or-set_same whole seg b false (omega arith)
    ∙ tells_complete b (reading (status_at tree) 1) tells
    ∙ ap (λ t. is_complete_reading (reading (status_at t) 1)) (is ∙ get_or_default trees seg tree [] there))

pub loop-seg-preserved : goal.loop-seg-preserved
loop-seg-preserved c = record {
  room = length-set c.loop-seg.whole c.loop-seg.seg c.all_complete.result ∙ c.loop-seg.invariant.room;
  each = told_next c.args.trees.now c.loop-seg.whole c.loop-seg.seg c.index-trees-seg.result c.all_complete.result c.loop-seg.invariant.room (omega (arith, c.requires)) (omega arith) c.index-trees-seg.is c.all_complete.ensures.reading c.loop-seg.invariant.each;
}
